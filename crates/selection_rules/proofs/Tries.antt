-- Tries.
use Rattle.std.proofs.Common.{◌≡◌, ℕ, suc, ◌+◌, ◌<◌, ◌≤◌, Bool, true, false, cond, List, [], ◌∷◌, Option, Some, None, length, refl, sym, ap, ◌∙◌, subst, arith, ◌^◌}
use Rattle.std.proofs.lemmas.Bool.{true≢false, eq-eqb}
use Rattle.bs_words.specs.Fits.{fits}
use Rattle.bs_words.specs.Memory.{Memory}
use Rattle.bs_words.specs.declared.types.Ty.{Ty}
use Rattle.bs_words.specs.declared.values.Value.{Value}
use Rattle.cmm_tree.specs.Tree.{LabelTree, Expression, Try, same_label}
use Rattle.cmm_types.specs.Types.{Scoped, type_of}
use Rattle.cmm_meaning.specs.Evaluation.{with_bound}
use Rattle.cmm_meaning.specs.State.{Here, taken, within_try, back_in, outermost}
use Rattle.meaning_laws.specs.Does.{Leaves, Giving, Exiting, Does, Deepens}
use Rattle.meaning_laws.specs.Interaction.{onward, of_type, does, from, trying, scope_restored}
use Rattle.mach_ir.specs.declared.reg.Reg.{Reg}
use Rattle.mach_ir.specs.declared.mach.Instr.{Instr}
use Rattle.mach_ir.specs.declared.mach.Mach.{Mach}
use Rattle.mach_ir.specs.Runs.{ActivationSetting, Continues}
use Rattle.mach_ir.specs.Acts.{drop_tries}
use Rattle.mach_ir.specs.Meaning.{Everything, tries_at, File, assign_register, put_if, clear_registers, killed, after_label, from_handler, wrote}
use Rattle.selection_rules.specs.Select.{NamedRegister, Label, scopes, visible_label, inner_valued, inner_dest, width, seat, labels_within_try, raised_name, select}
use Rattle.selection_rules.specs.Follow.{FollowsText, walks, deepens}
use Rattle.selection_rules.proofs.Files.{Low, survives_call, Survives, put_same, under_more, IsNamed, named_under, Stands, stands_put, stands_survives, stands_length}
use Rattle.mach_laws.proofs.Places.{ending_next}
use Rattle.selection_rules.proofs.Parts.{ending_in, Placed, WellLabelled, Lower, no_label, a_label, lower_more, Stable, stable_same, May, new, dest, name, calm, calm_in, at, arrive, Level, reaching_now, reaching_out, raised_to, any, Left, nothing, gone_any, holding, After, after_typed, node_follows, Ready}
use Rattle.selection_rules.proofs.Operands.{Selected}
use Rattle.selection_rules.proofs.Endings.{ending_select}
use Rattle.selection_rules.proofs.Leaves.{ready_inner, stable_dest, move_follows}
use Rattle.selection_rules.proofs.Branches.{after_through}
use Rattle.selection_rules.proofs.Scopes.{after_back}
use Rattle.bs_words.specs.declared.types.Comp.TheVariants as comp
use Rattle.bs_words.specs.declared.types.Ty.TheVariants as ty
use Rattle.meaning_laws.specs.Interaction as part
use Rattle.mach_ir.specs.Runs as runs
use Rattle.selection_rules.proofs.Files as files
use Rattle.selection_rules.specs.Instructions as emit
use Rattle.selection_rules.specs.Instructions.{bare_mark}
use Rattle.mach_ir.specs.declared.mach.Mark.TheVariants as mark
use Rattle.selection_rules.specs.Follow.{text_setting}

lower_deeper : {b : ℕ} {labels : List Label} → Lower b labels → Lower b (labels_within_try labels)
lower_deeper no_label = no_label
lower_deeper (a_label u l) = a_label u (lower_deeper l)

module _ (c : ActivationSetting) (m : Mach) (turns : ℕ) (ts : List ℕ) where
  -- an exit out of a try comes to where it comes from outside it
  arrive_deeper : (l : ℕ) (labels : List Label) (x : LabelTree) (vs : List Value) (f : File) (memory : Memory) →
      arrive c m turns (l ∷ ts) (visible_label (labels_within_try labels) x) vs f memory ≡ arrive c m turns ts (visible_label labels x) vs f memory
  arrive_deeper l [] x vs f memory = refl
  arrive_deeper l (t ∷ labels) x vs f memory = by (same_label x t.label) (arrive_deeper l labels x vs f memory)
    where
      by : (q : Bool) → arrive c m turns (l ∷ ts) (visible_label (labels_within_try labels) x) vs f memory ≡ arrive c m turns ts (visible_label labels x) vs f memory →
          arrive c m turns (l ∷ ts) (cond q (Some (record { label = t.label; params = t.params; number = t.number; tries = suc t.tries })) (visible_label (labels_within_try labels) x)) vs f memory
          ≡ arrive c m turns ts (cond q (Some t) (visible_label labels x)) vs f memory
      by true e = refl
      by false e = e

  forget : {us : List ℕ} {o : Option Ty} {d : Reg} {f : File} {v : Option Value} → Left c m turns us o d f v → Left c m turns ts None d f v
  forget (nothing g) = nothing gone_any
  forget (holding x h) = holding any h

  module _ (low : Low m.colours) (labelled : WellLabelled m) (place : ℕ) (body : Expression) (name_at : ℕ) (its_name : List ℕ) (handler : Expression) (env : List NamedRegister) (labels : List Label) (valued tail : Bool) (d : Reg)
      (b : ℕ) (next : List Instr) (P : File → Type 0) (k : Leaves (Option Value) → Does) where
    abbrev T : Ty
    T = type_of (scopes env) (Try place body name_at its_name handler)

    abbrev kk : Leaves (Option Value) → Does
    kk = λ l. onward (λ v h memory. of_type c.setting.end T v h memory) l k

    abbrev wants : Bool
    wants = inner_valued valued T

    abbrev target : Reg
    target = inner_dest T b d

    abbrev l : ℕ
    l = suc b

    abbrev end : ℕ
    end = suc (suc b)

    abbrev x : NamedRegister
    x = raised_name its_name (suc (suc (suc b)))

    abbrev y : Reg
    y = seat 0 (suc (suc (suc (suc b)))) comp.Val

    abbrev base : ℕ
    base = suc (suc (suc (suc (suc b))))

    abbrev end_instr : Instr
    end_instr = bare_mark (mark.End end)

    abbrev handler_code : List Instr
    handler_code = select (x ∷ env) labels wants tail target (base + width body) handler (end_instr ∷ next)

    abbrev handler_instr : Instr
    handler_instr = emit.handler l y

    abbrev entry_code : List Instr
    entry_code = emit.move y x.reg ∷ handler_code

    abbrev left_code : List Instr
    left_code = bare_mark (mark.Leave l end) ∷ handler_instr ∷ entry_code

    abbrev body_code : List Instr
    body_code = select env (labels_within_try labels) wants false target base body left_code

    -- what a raise does, from where the body is left by one
    abbrev caught : Value → Here → Memory → part.Part (Option Value)
    caught v h memory =
        let raised : Scoped = record { name = its_name; type = ty.Val; mutable = false } in
        scope_restored (length h.names) h.tries (does (text_setting c) turns handler tail (with_bound (raised ∷ []) (v ∷ []) h) memory)

    abbrev Followed : Type 0
    Followed = After c m turns ts None env labels wants tail target next P kk

    handler_ready : Ready c m turns ts env labels (suc b) target → Ready c m turns ts (x ∷ env) labels (base + width body) target
    handler_ready r =
        let first : 21 ≤ suc b = let less = r.below in let le = r.first in omega (arith, less, le) in
        record {
          under = files.one (omega arith) (omega (arith, first)) refl (under_more (suc (suc (suc b))) (omega arith) r.under);
          lower = lower_more (base + width body) (omega arith) r.lower;
          off = off;
          below = let less = r.below in omega (arith, less);
          first = r.first;
        }
      where
        off : IsNamed target.number (x ∷ env) → ⊥
        off (files.here same) = let less = r.below in omega (arith, less, same)
        off (files.there q) = r.off q

    handler_stable : Stable env (suc b) target.number P → Stable (x ∷ env) (base + width body) target.number P
    handler_stable s = record { puts = λ r v f may p. s.puts r v f (by r.number may) p; calls = λ f g w p. s.calls f g w p }
      where
        by : (n : ℕ) → May (x ∷ env) (base + width body) target.number n → May env (suc b) target.number n
        by n (new le) = new (omega (arith, le))
        by n (dest same) = dest same
        by n (name (files.here same)) = new (omega (arith, same))
        by n (name (files.there q)) = name q

    -- the handler's entry
    raise_follows : Selected c m turns ts handler → width handler < 2 ^ 60 → Ready c m turns ts env labels (suc b) target → Stable env (suc b) target.number P → Placed m ts handler_code →
        from_handler l m.code ≡ handler_instr ∷ entry_code → Followed → (v : Value) → fits c.setting.end ty.Val v ≡ true → (h : Here) (f : File) (memory : Memory) → Level c m turns ts h → Stands env h.names f → P f →
        FollowsText c m (caught v h memory kk) (raised_to m (l ∷ ts) v f memory)
    raise_follows sh fine ready stable placed is a v fv h f memory level s p =
        let cleared : File = clear_registers (killed m handler_instr) f in
        let survives : Survives f cleared = survives_call Everything (y ∷ []) f low in
        let unnamed : (n : ℕ) → suc b ≤ n → IsNamed n env → ⊥ = λ n le q. let small = named_under ready.under q in omega (arith, small, le) in
        let seated : File = assign_register y v cleared in
        let s2 = stands_put y v (unnamed y.number (omega arith)) (stands_survives ready.under survives s) in
        let p2 = stable.puts y v cleared (new (omega arith)) (stable.calls f cleared survives p) in
        let raised : Scoped = record { name = its_name; type = ty.Val; mutable = false } in
        let here : Here = with_bound (raised ∷ []) (v ∷ []) h in
        subst (λ code. FollowsText c m (caught v h memory kk) (Continues (record { rest = code; file = f; around = record { memory = memory; unwritten = []; tries = ts; raised = Some v } }))) (sym is)
        (walks (
        subst (λ g. FollowsText c m (caught v h memory kk) (wrote entry_code (calm c m turns ts memory) (put_if g y v (Some cleared)))) (sym fv)
        (move_follows c m turns ts (put_same y v cleared)
        (subst (λ g. FollowsText c m (caught v h memory kk) (wrote handler_code (calm c m turns ts memory) (put_if g x.reg v (Some seated)))) (sym fv)
        (sh (x ∷ env) labels wants tail target (base + width body) (end_instr ∷ next) P (λ l. onward (λ v h' memory. part.gives v (back_in (length h.names) h.tries h') memory) l kk) fine
        (handler_ready ready) (handler_stable stable) placed
        (after_through c m turns ts (type_of (scopes (x ∷ env)) handler) (λ y f memory follows. walks follows)
        (after_back c m turns ts None (length h.names) h.tries (λ h f r. reaching_out h r) (stands_length s) level.tries a))
        here (assign_register x.reg v seated) memory (record { below = level.below; frame = level.frame; tries = level.tries })
        (files.one refl (put_same x.reg v seated) (stands_put x.reg v (unnamed x.reg.number (omega arith)) s2))
        (stable.puts x.reg v seated (new (omega arith)) p2))))))

    pub selected_try : Selected c m turns (l ∷ ts) body → Selected c m turns ts handler → width (Try place body name_at its_name handler) < 2 ^ 60 →
        Ready c m turns ts env labels b d → Stable env b d.number P → Placed m ts (select env labels valued tail d b (Try place body name_at its_name handler) next) →
        After c m turns ts (Some T) env labels valued tail d next P k → (h : Here) (f : File) (memory : Memory) → Level c m turns ts h → Stands env h.names f → P f →
        FollowsText c m (does (text_setting c) turns (Try place body name_at its_name handler) tail h memory k) (Continues (at c m turns ts (select env labels valued tail d b (Try place body name_at its_name handler) next) f memory))
    selected_try sb sh fine ready stable placed after h f memory level s p =
        let a = after_typed c m turns ts T b after in
        let inner = ready_inner c m turns ts T ready in
        let steady = stable_dest c m turns ts d T stable in
        let body_in = ending_select env (labels_within_try labels) wants false target base body left_code in
        let handler_in = ending_select (x ∷ env) labels wants tail target (base + width body) handler (end_instr ∷ next) in
        let body_ending = ending_next placed.ending in
        let handler_ending = ending_next (ending_in body_in.ending body_ending) in
        let code_ending = ending_next (ending_next handler_ending) in
        let is_end : after_label end m.code ≡ next = labelled.behind_is end end_instr next (ending_in handler_in.ending code_ending) (eq-eqb end end refl) in
        let is_handler : from_handler l m.code ≡ handler_instr ∷ entry_code = labelled.onto_is l handler_instr entry_code handler_ending (eq-eqb l l refl) in
        let handler_caught : tries_at handler_code ≡ ts = sym (ap (drop_tries 1) body_in.tries) ∙ placed.caught in
        let body_caught : tries_at body_code ≡ l ∷ ts = body_in.tries ∙ ap (λ us. l ∷ us) handler_caught in
        let handler_placed : Placed m ts handler_code = record { ending = code_ending; caught = handler_caught } in
        let bytes : runs.stack_in_use c (calm_in (l ∷ ts) memory) ≡ taken (within_try h) =
        (let one = level.below in let two = level.frame in let three = level.tries in omega (arith, one, two, three)) in
        let inside_try : Does = does (text_setting c) turns body false (within_try h) memory (λ q. trying (λ v h memory. caught v h memory) (length h.names) h.tries q kk) in
        let long : length h.names ≡ length env = stands_length s in
        let deep = level.tries in
        node_follows c m turns ts (Try place body name_at its_name handler) h memory
        (from (part.deepens (taken (within_try h)) (does (text_setting c) turns body false (within_try h) memory)) (trying (λ v h memory. caught v h memory) (length h.names) h.tries)) k _ s
        (walks (
        subst (λ bytes. FollowsText c m (Deepens (taken (within_try h)) inside_try) (runs.Deepens bytes (at c m turns (l ∷ ts) body_code f memory))) (sym bytes)
        (deepens (
        (sb env (labels_within_try labels) wants false target base left_code P (λ q. trying (λ v h memory. caught v h memory) (length h.names) h.tries q kk) (omega (arith, fine))
        (record {
          under = under_more base (omega arith) ready.under;
          lower = lower_deeper (lower_more base (omega arith) ready.lower);
          off = inner.off;
          below = let less = inner.below in omega (arith, less);
          first = inner.first;
        })
        (stable_same base (omega arith) steady)
        (record { ending = body_ending; caught = body_caught })
        (record {
          outs = record {
            exit = λ q vs h' f memory lev r p.
                let o = a.outs in
                subst (λ z. FollowsText c m (kk (Exiting q vs h' memory)) z) (sym (arrive_deeper l labels q vs f memory)) (o.exit q vs h' f memory (record { below = lev.below; frame = lev.frame }) r p);
            raising = λ v fv h' f memory lev r p.
                raise_follows sh (omega (arith, fine)) inner steady handler_placed is_handler a v fv (back_in (length h.names) h.tries h') f memory (record { below = lev.below; frame = lev.frame; tries = deep })
                (subst (λ n. Stands env (outermost n h'.names) f) (sym long) r) p;
          };
          giving = λ v h' f memory lev s' p left.
              walks (subst (λ code. FollowsText c m (kk (Giving v (back_in (length h.names) h.tries h') memory)) (Continues (at c m turns ts code f memory))) (sym is_end)
              (a.giving v (back_in (length h.names) h.tries h') f memory (record { below = lev.below; frame = lev.frame; tries = deep }) (subst (λ n. Stands env (outermost n h'.names) f) (sym long) (reaching_now h' s')) p (forget left)));
          lost = λ v h' f memory s' fit' misfit'.
              a.lost v (back_in (length h.names) h.tries h') f memory (subst (λ n. Stands env (outermost n h'.names) f) (sym long) (reaching_now h' s')) any misfit';
          untried = λ q. absurd (true≢false (sym q));
          tailing = λ q. absurd (true≢false (sym q));
        })
        (within_try h) f memory (record { below = level.below; frame = level.frame; tries = ap suc level.tries }) s p)))))
