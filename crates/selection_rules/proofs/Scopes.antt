-- Sequences and bindings.
use Rattle.std.proofs.Common.{◌≡◌, ℕ, suc, ◌+◌, ◌<◌, ◌≤◌, Bool, true, false, cond, List, [], ◌∷◌, Option, Some, None, length, refl, sym, ◌∙◌, subst, arith, le_refl, ◌^◌}
use Rattle.std.proofs.lemmas.Bool.{true≢false}
use Rattle.bs_words.specs.Fits.{fits, misfit}
use Rattle.bs_words.specs.Memory.{Memory}
use Rattle.bs_words.specs.declared.types.Ty.{Ty}
use Rattle.bs_words.specs.declared.values.Value.{Value}
use Rattle.cmm_tree.specs.Tree.{Expression, Seq, Let, Expressions, NoMore, More, Bindings, NoBinding, Bind, Declaration}
use Rattle.cmm_types.specs.Types.{Scoped, type_of, type_bound, is_mutable}
use Rattle.cmm_meaning.specs.State.{Here, scope, back_in, outermost}
use Rattle.cmm_meaning.specs.Evaluation.{with_bound}
use Rattle.meaning_laws.specs.Does.{Leaves, Does}
use Rattle.meaning_laws.specs.Interaction.{onward, tested, does, in_order, entering, only_value, scope_restored}
use Rattle.mach_ir.specs.declared.reg.Reg.{Reg}
use Rattle.mach_ir.specs.declared.mach.Instr.{Instr}
use Rattle.mach_ir.specs.declared.mach.Mach.{Mach}
use Rattle.mach_ir.specs.Runs.{ActivationSetting, Step, Continues, IsStuck}
use Rattle.mach_ir.specs.Meaning.{State, File}
use Rattle.selection_rules.specs.Select.{NamedRegister, Label, scopes, fresh_register, inner_valued, inner_dest, width, env_after, width_bound, select, select_seq, select_bound, width_row}
use Rattle.selection_rules.specs.Follow.{FollowsText, fails}
use Rattle.selection_rules.proofs.Files.{one, IsNamed, here, there, Stands, scope_is, stands_length}
use Rattle.selection_rules.proofs.Parts.{Placed, placed_in, lower_more, Stable, stable_inner, stable_same, May, new, dest, name, at, Level, Reaching, reaching_now, reaching_out, any, any_shape, Left, nothing, gone_any, holding, After, after_typed, node_follows, Ready}
use Rattle.selection_rules.proofs.Operands.{Selected, ready_at, own_fits}
use Rattle.selection_rules.proofs.Endings.{ending_select}
use Rattle.selection_rules.proofs.Leaves.{ready_inner, stable_dest}
use Rattle.selection_rules.proofs.Branches.{ready_more, after_through, ignored}
use Rattle.meaning_laws.specs.Interaction as part
use Rattle.selection_rules.specs.Follow.{text_setting}

module _ (c : ActivationSetting) (m : Mach) (turns : ℕ) (ts : List ℕ) where
  abbrev pub SelectedSeq : Expressions → Type 1
  SelectedSeq es =
      (env : List NamedRegister) (labels : List Label) (valued tail : Bool) (d : Reg) (b : ℕ) (next : List Instr) (P : File → Type 0) (k : Leaves (Option Value) → Does) →
      width_row es < 2 ^ 60 → Ready c m turns ts env labels b d → Stable env b d.number P → Placed m ts (select_seq env labels valued tail d b es next) →
      After c m turns ts None env labels valued tail d next P k → (h : Here) (f : File) (memory : Memory) → Level c m turns ts h → Stands env h.names f → P f →
      FollowsText c m (in_order (text_setting c) turns es tail h memory k) (Continues (at c m turns ts (select_seq env labels valued tail d b es next) f memory))

  pub selected_no_more : SelectedSeq NoMore
  selected_no_more env labels valued tail d b next P k fine ready stable ending after h f memory level s p = after.giving None h f memory level s p (nothing gone_any)

  pub selected_last : (e : Expression) → Selected c m turns ts e → SelectedSeq (More e NoMore)
  selected_last e se env labels valued tail d b next P k fine ready stable ending after h f memory level s p =
      se env labels valued tail d (suc b) next P k (omega (arith, fine)) (ready_more c m turns ts (suc b) (omega arith) ready) (stable_same (suc b) (omega arith) stable) ending
      (after_through c m turns ts (type_of (scopes env) e) (λ x f memory follows. follows) after) h f memory level s p

  pub selected_more : (e g : Expression) (es : Expressions) → Selected c m turns ts e → SelectedSeq (More g es) → SelectedSeq (More e (More g es))
  selected_more e g es se ses env labels valued tail d b next P k fine ready stable ending after h f memory level s p =
      let first : 21 ≤ b = let less = ready.below in let le = ready.first in omega (arith, less, le) in
      ignored c m turns ts e se (omega (arith, fine)) b (suc b) (select_seq env labels valued tail d (suc (b + width e)) (More g es) next) (λ h memory. in_order (text_setting c) turns (More g es) tail h memory) k
      (ready_at c m turns ts (type_of (scopes env) e) b (suc b) ready.lower ready.under first (le_refl b) (omega arith)) (stable_inner b (suc b) (le_refl b) (omega arith) stable) ending after.outs h f memory level s p
      (λ h f memory level s p.
      ses env labels valued tail d (suc (b + width e)) next P k (omega (arith, fine)) (ready_more c m turns ts (suc (b + width e)) (omega arith) ready) (stable_same (suc (b + width e)) (omega arith) stable)
      (placed_in (ending_select env labels false false (fresh_register b (type_of (scopes env) e)) (suc b) e (select_seq env labels valued tail d (suc (b + width e)) (More g es) next)) ending) after h f memory level s p)

  pub selected_seq : (place : ℕ) (es : Expressions) → SelectedSeq es → Selected c m turns ts (Seq place es)
  selected_seq place es ses env labels valued tail d b next P k fine ready stable ending after h f memory level s p =
      let T = type_of (scopes env) (Seq place es) in
      node_follows c m turns ts (Seq place es) h memory (in_order (text_setting c) turns es tail h memory) k _ s
      (ses env labels (inner_valued valued T) tail (inner_dest T b d) (suc b) next P _ (omega (arith, fine)) (ready_inner c m turns ts T ready) (stable_dest c m turns ts d T stable) ending (after_typed c m turns ts T b after) h f memory level s p)

  -- ---- bindings

  -- bindings and a body, from within scopes that `level` bindings were there before
  abbrev pub SelectedLet : Bindings → Expression → Type 1
  SelectedLet bindings body =
      (outer env : List NamedRegister) (labels : List Label) (valued tail : Bool) (d : Reg) (b base : ℕ) (next : List Instr) (P : File → Type 0) (k : Leaves (Option Value) → Does) (level tries : ℕ) →
      ((h : Here) (f : File) → Reaching env h f → Reaching outer h f) → level ≡ length outer → tries ≡ length ts →
      width_bound bindings < 2 ^ 60 → width body < 2 ^ 60 → Ready c m turns ts env labels b d → Stable env b d.number P → b + width_bound bindings ≤ base →
      Placed m ts (select_bound env labels b bindings (select (env_after env b bindings) labels valued tail d base body next)) →
      After c m turns ts None outer labels valued tail d next P k → (h : Here) (f : File) (memory : Memory) → Level c m turns ts h → Stands env h.names f → P f →
      FollowsText c m (entering (text_setting c) turns bindings h memory (λ l. onward (λ _ inner memory. scope_restored level tries (does (text_setting c) turns body tail inner memory)) l k))
      (Continues (at c m turns ts (select_bound env labels b bindings (select (env_after env b bindings) labels valued tail d base body next)) f memory))

  forget_left : {o : Option Ty} {d : Reg} {f : File} {v : Option Value} → Left c m turns ts o d f v → Left c m turns ts None d f v
  forget_left (nothing g) = nothing gone_any
  forget_left (holding x h) = holding any h

  -- what a part of an inner scope leaves, back in the outer one
  pub after_back : {outer env : List NamedRegister} {labels : List Label} {valued tail : Bool} {d : Reg} {next : List Instr} {P : File → Type 0} {k : Leaves (Option Value) → Does} (o : Option Ty) (level tries : ℕ) →
      ((h : Here) (f : File) → Reaching env h f → Reaching outer h f) → level ≡ length outer → tries ≡ length ts → After c m turns ts None outer labels valued tail d next P k →
      After c m turns ts o env labels valued tail d next P (λ l. onward (λ v h memory. part.gives v (back_in level tries h) memory) l k)
  after_back {outer} o level tries out long deep a =
      record {
        outs = record {
          exit = λ l values h f memory lev r p. let q = a.outs in q.exit l values h f memory lev (out h f r) p;
          raising = λ v fv h f memory lev r p. let q = a.outs in q.raising v fv h f memory lev (out h f r) p;
        };
        giving = λ v h f memory lev s p left.
            a.giving v (back_in level tries h) f memory (record { below = lev.below; frame = lev.frame; tries = deep })
            (subst (λ n. Stands outer (outermost n h.names) f) (sym long) (out h f (reaching_now h s))) p (forget_left left);
        lost = λ v h f memory s x misfit'. a.lost v (back_in level tries h) f memory (subst (λ n. Stands outer (outermost n h.names) f) (sym long) (out h f (reaching_now h s))) any misfit';
        untried = a.untried;
        tailing = λ e v shape h memory. a.tailing e v (any_shape c m turns ts v) (back_in level tries h) memory;
      }

  pub selected_body : (body : Expression) → Selected c m turns ts body → SelectedLet NoBinding body
  selected_body body sb outer env labels valued tail d b base next P k level tries out long deep few fine ready stable le ending after h f memory lev s p =
      let less : b ≤ base = omega (arith, le) in
      sb env labels valued tail d base next P _ fine (ready_more c m turns ts base less ready) (stable_same base less stable) ending
      (after_back (Some (type_of (scopes env) body)) level tries out long deep after) h f memory lev s p

  module _ (place : ℕ) (x : List ℕ) (declared : Option Declaration) (e : Expression) (rest : Bindings) (body : Expression) (outer env : List NamedRegister) (labels : List Label) (valued tail : Bool) (d : Reg) (b base : ℕ)
      (next : List Instr) (P : File → Type 0) (k : Leaves (Option Value) → Does) (level tries : ℕ) where
    abbrev X : Ty
    X = type_bound declared (type_of (scopes env) e)

    abbrev scoped_in : List Scoped → Scoped
    scoped_in sc = record { name = x; type = type_bound declared (type_of sc e); mutable = is_mutable declared }

    abbrev named : NamedRegister
    named = record { scoped = scoped_in (scopes env); reg = fresh_register b X }

    abbrev inner_code : List Instr
    inner_code = select_bound (named ∷ env) labels (suc (b + width e)) rest (select (env_after (named ∷ env) (suc (b + width e)) rest) labels valued tail d base body next)

    abbrev deeper : Leaves (Option Value) → Does
    deeper = λ l. onward (λ _ inner memory. scope_restored level tries (does (text_setting c) turns body tail inner memory)) l k

    bound_in : Ready c m turns ts env labels b d → Stable env b d.number P → Ready c m turns ts (named ∷ env) labels (suc (b + width e)) d
    bound_in ready stable =
        let first : 21 ≤ b = let less = ready.below in let le = ready.first in omega (arith, less, le) in
        let less = ready.below in
        record {
          under = one (omega arith) first refl ready.under;
          lower = lower_more (suc (b + width e)) (omega arith) ready.lower;
          off = λ q. apart q;
          below = omega (arith, less);
          first = ready.first;
        }
      where
        apart : IsNamed d.number (named ∷ env) → ⊥
        apart (here same) = let less = ready.below in omega (arith, less, same)
        apart (there q) = ready.off q

    stable_in : Stable env b d.number P → Stable (named ∷ env) (suc (b + width e)) d.number P
    stable_in s = record { puts = λ r v f may p. s.puts r v f (by r.number may) p; calls = λ f g w p. s.calls f g w p }
      where
        by : (n : ℕ) → May (named ∷ env) (suc (b + width e)) d.number n → May env b d.number n
        by n (new le) = new (omega (arith, le))
        by n (dest same) = dest same
        by n (name (here same)) = new (omega (arith, same))
        by n (name (there q)) = name q

    bind_tested : (v : Value) (h : Here) (f : File) (memory : Memory) (s : Step State) → Stands env h.names f →
        (fits c.setting.end X v ≡ true → FollowsText c m (entering (text_setting c) turns rest (with_bound (scoped_in (scopes env) ∷ []) (v ∷ []) h) memory deeper) s) →
        FollowsText c m (tested c.setting.end (type_bound declared (type_of (scope h) e)) v memory (entering (text_setting c) turns rest (with_bound (scoped_in (scope h) ∷ []) (v ∷ []) h) memory) deeper) s
    bind_tested v h f memory s stands on =
        subst (λ sc. FollowsText c m (tested c.setting.end (type_bound declared (type_of sc e)) v memory (entering (text_setting c) turns rest (with_bound (scoped_in sc ∷ []) (v ∷ []) h) memory) deeper) s) (sym (scope_is stands))
        (by (fits c.setting.end X v) refl)
      where
        by : (g : Bool) → fits c.setting.end X v ≡ g → FollowsText c m (cond g (entering (text_setting c) turns rest (with_bound (scoped_in (scopes env) ∷ []) (v ∷ []) h) memory) (part.fails (misfit X) memory) deeper) s
        by true q = on q
        by false q = fails

    pub selected_bind : Selected c m turns ts e → SelectedLet rest body →
        ((h : Here) (f : File) → Reaching env h f → Reaching outer h f) → level ≡ length outer → tries ≡ length ts →
        width_bound (Bind place x declared e rest) < 2 ^ 60 → width body < 2 ^ 60 → Ready c m turns ts env labels b d → Stable env b d.number P → b + width_bound (Bind place x declared e rest) ≤ base →
        Placed m ts (select_bound env labels b (Bind place x declared e rest) (select (env_after env b (Bind place x declared e rest)) labels valued tail d base body next)) →
        After c m turns ts None outer labels valued tail d next P k → (h : Here) (f : File) (memory : Memory) → Level c m turns ts h → Stands env h.names f → P f →
        FollowsText c m (entering (text_setting c) turns (Bind place x declared e rest) h memory deeper)
        (Continues (at c m turns ts (select_bound env labels b (Bind place x declared e rest) (select (env_after env b (Bind place x declared e rest)) labels valued tail d base body next)) f memory))
    selected_bind se sr out long deep few fine ready stable le ending after h f memory lev s p =
        let first : 21 ≤ b = let less = ready.below in let le = ready.first in omega (arith, less, le) in
        se env labels false false (fresh_register b X) (suc b) inner_code P _ (omega (arith, few))
        (ready_at c m turns ts X b (suc b) ready.lower ready.under first (le_refl b) (omega arith)) (stable_inner b (suc b) (le_refl b) (omega arith) stable) ending
        (record {
          outs = record {
            exit = λ l values h f memory lev r p. let q = after.outs in q.exit l values h f memory lev (out h f r) p;
            raising = λ v fv h f memory lev r p. let q = after.outs in q.raising v fv h f memory lev (out h f r) p;
          };
          giving = given;
          lost = λ v h f memory s x misfit'. bind_tested v h f memory IsStuck s (λ q. absurd (true≢false (sym (own_fits c m turns ts X v q) ∙ misfit')));
          untried = λ q. absurd (true≢false (sym q));
          tailing = λ q. absurd (true≢false (sym q));
        })
        h f memory lev s p
      where
        given : (v : Option Value) (h : Here) (f : File) (memory : Memory) → Level c m turns ts h → Stands env h.names f → P f → Left c m turns ts (Some (type_of (scopes env) e)) (fresh_register b X) f v →
            FollowsText c m (only_value v (λ v h memory. tested c.setting.end (type_bound declared (type_of (scope h) e)) v memory (entering (text_setting c) turns rest (with_bound (scoped_in (scope h) ∷ []) (v ∷ []) h) memory)) h memory deeper)
            (Continues (at c m turns ts inner_code f memory))
        given None h f memory lev s p left = fails
        given (Some v) h f memory lev s p (holding x holds) =
            bind_tested v h f memory (Continues (at c m turns ts inner_code f memory)) s (λ q.
            sr outer (named ∷ env) labels valued tail d (suc (b + width e)) base next P k level tries (λ h f r. out h f (reaching_out h r)) long deep (omega (arith, few)) fine
            (bound_in ready stable) (stable_in stable) (omega (arith, le))
            (placed_in (ending_select env labels false false (fresh_register b X) (suc b) e inner_code) ending) after (with_bound (scoped_in (scopes env) ∷ []) (v ∷ []) h) f memory
            (record { below = lev.below; frame = lev.frame; tries = lev.tries }) (one refl holds s) p)

  pub selected_let : (place : ℕ) (bindings : Bindings) (body : Expression) → SelectedLet bindings body → Selected c m turns ts (Let place bindings body)
  selected_let place bindings body sl env labels valued tail d b next P k fine ready stable ending after h f memory lev s p =
      let T = type_of (scopes env) (Let place bindings body) in
      node_follows c m turns ts (Let place bindings body) h memory (part.and_then (entering (text_setting c) turns bindings h memory) (λ _ inner memory. scope_restored (length h.names) h.tries (does (text_setting c) turns body tail inner memory))) k _ s
      (sl env env labels (inner_valued valued T) tail (inner_dest T b d) (suc b) (suc b + width_bound bindings) next P _ (length h.names) h.tries (λ h f r. r) (stands_length s) lev.tries (omega (arith, fine)) (omega (arith, fine))
      (ready_inner c m turns ts T ready) (stable_dest c m turns ts d T stable) (le_refl (suc b + width_bound bindings)) ending (after_typed c m turns ts T b after) h f memory lev s p)
