-- Forms with branches, sequences and scopes.
use Rattle.std.proofs.Common.{◌≡◌, ℕ, suc, ◌+◌, ◌<◌, ◌≤◌, Bool, true, false, cond, List, [], ◌∷◌, Option, Some, None, refl, sym, ◌∙◌, subst, arith, ◌^◌}
use Rattle.std.proofs.lemmas.Bool.{true≢false, eq-eqb}
use Rattle.bs_words.specs.Fits.{fits, type_of_comp}
use Rattle.bs_words.specs.Memory.{Memory, sizes}
use Rattle.bs_words.specs.Operators.{condition_of}
use Rattle.bs_words.specs.declared.types.Ty.{Ty}
use Rattle.bs_words.specs.declared.values.Value.{Value}
use Rattle.cmm_tree.specs.Tree.{Expression, If}
use Rattle.cmm_types.specs.Types.{type_of}
use Rattle.cmm_meaning.specs.State.{Here}
use Rattle.meaning_laws.specs.Does.{Leaves, Does}
use Rattle.meaning_laws.specs.Interaction.{Part, onward, of_type, proper, does}
use Rattle.mach_ir.specs.declared.reg.Reg.{Reg}
use Rattle.mach_ir.specs.declared.mach.Instr.{Instr}
use Rattle.mach_ir.specs.declared.mach.Mach.{Mach}
use Rattle.mach_ir.specs.Runs.{ActivationSetting, Continues}
use Rattle.mach_ir.specs.Meaning.{File, after_label}
use Rattle.selection_rules.specs.Select.{NamedRegister, Label, scopes, fresh_register, comp_of_type, inner_valued, inner_dest, width, select}
use Rattle.selection_rules.specs.Follow.{FollowsText, walks}
use Rattle.selection_rules.proofs.Files.{under_more, Stands}
use Rattle.selection_rules.proofs.Parts.{Placed, inside_all, inside_more, inside_in, placed_in, placed_next, lower_more, WellLabelled, Stable, stable_same, at, Level, Outs, Fit, any, fit, any_shape, Left, nothing, gone_any, holding, After, after_typed, node_follows, Ready}
use Rattle.selection_rules.proofs.Operands.{Selected, own_fits}
use Rattle.selection_rules.proofs.Tests.{Turns, SelectedTest}
use Rattle.selection_rules.proofs.Endings.{ending_test, ending_select}
use Rattle.selection_rules.proofs.Leaves.{ready_inner, stable_dest}
use Rattle.meaning_laws.specs.Interaction as part
use Rattle.selection_rules.specs.Instructions as emit
use Rattle.selection_rules.specs.Instructions.{bare_mark}
use Rattle.mach_ir.specs.declared.mach.Mark.TheVariants as mark
use Rattle.mach_ir.specs.declared.mach.Test.TheVariants as test
use Rattle.selection_rules.specs.Follow.{text_setting}

module _ (c : ActivationSetting) (m : Mach) (turns : ℕ) (ts : List ℕ) where
  pub ready_more : {env : List NamedRegister} {labels : List Label} {b : ℕ} {d : Reg} (n : ℕ) → b ≤ n → Ready c m turns ts env labels b d → Ready c m turns ts env labels n d
  ready_more n le r = record { under = under_more n le r.under; lower = lower_more n le r.lower; off = r.off; below = let less = r.below in omega (arith, less, le); first = r.first }

  forget : {o : Option Ty} {d : Reg} {f : File} {v : Option Value} → Left c m turns ts o d f v → Left c m turns ts None d f v
  forget (nothing g) = nothing gone_any
  forget (holding x h) = holding any h

  -- a part whose code goes on elsewhere, from where the machine comes to the same place
  pub after_through : {env : List NamedRegister} {labels : List Label} {valued tail : Bool} {d : Reg} {next there : List Instr} {P : File → Type 0} {k : Leaves (Option Value) → Does} (T : Ty) →
      ((x : Does) (f : File) (memory : Memory) → FollowsText c m x (Continues (at c m turns ts next f memory)) → FollowsText c m x (Continues (at c m turns ts there f memory))) →
      After c m turns ts None env labels valued tail d next P k → After c m turns ts (Some T) env labels valued tail d there P k
  after_through T comes a =
      record {
        outs = a.outs;
        giving = λ v h f memory level s p left. comes _ f memory (a.giving v h f memory level s p (forget left));
        lost = λ v h f memory s x misfit'. a.lost v h f memory s any misfit';
        untried = a.untried;
        tailing = λ e v shape h memory. a.tailing e v (any_shape c m turns ts v) h memory;
      }

  -- ---- if

  module _ (labelled : WellLabelled m) (place : ℕ) (condition on_true on_false : Expression) (env : List NamedRegister) (labels : List Label) (valued tail : Bool) (d : Reg) (b : ℕ) (next : List Instr) (P : File → Type 0)
      (k : Leaves (Option Value) → Does) where
    abbrev T : Ty
    T = type_of (scopes env) (If place condition on_true on_false)

    abbrev kk : Leaves (Option Value) → Does
    kk = λ l. onward (λ v h memory. of_type c.setting.end T v h memory) l k

    abbrev base : ℕ
    base = suc (suc (suc (suc b)))

    abbrev end_code : List Instr
    end_code = bare_mark (mark.End (suc (suc (suc b)))) ∷ next

    abbrev false_code : List Instr
    false_code = select env labels (inner_valued valued T) tail (inner_dest T b d) (base + width condition + width on_true) on_false end_code

    abbrev else_code : List Instr
    else_code = bare_mark (mark.Else (suc (suc b)) (suc (suc (suc b)))) ∷ false_code

    abbrev true_code : List Instr
    true_code = select env labels (inner_valued valued T) tail (inner_dest T b d) (base + width condition) on_true else_code

    abbrev if_mark : Instr
    if_mark = emit.branch test.Holds (suc (suc b)) (fresh_register (suc b) (type_of (scopes env) condition) ∷ [])

    if_follows : Selected c m turns ts on_true → Selected c m turns ts on_false → width on_true < 2 ^ 60 → width on_false < 2 ^ 60 → Ready c m turns ts env labels b d → Stable env b d.number P → Placed m ts true_code →
        After c m turns ts None env labels (inner_valued valued T) tail (inner_dest T b d) next P kk →
        Turns c m turns ts env P (suc (suc b)) true_code kk (λ holds h memory. cond holds (does (text_setting c) turns on_true tail h memory) (does (text_setting c) turns on_false tail h memory))
    if_follows st sf ft ff ready stable ending a true h f memory level s p =
        let inner = placed_in (ending_select env labels (inner_valued valued T) tail (inner_dest T b d) (base + width condition) on_true else_code) ending in
        let last = placed_in (ending_select env labels (inner_valued valued T) tail (inner_dest T b d) (base + width condition + width on_true) on_false end_code) (placed_next refl inner) in
        let is : after_label (suc (suc (suc b))) m.code ≡ next = labelled.behind_is (suc (suc (suc b))) (bare_mark (mark.End (suc (suc (suc b))))) next last.ending (eq-eqb (suc (suc (suc b))) (suc (suc (suc b))) refl) in
        st env labels (inner_valued valued T) tail (inner_dest T b d) (base + width condition) else_code P kk ft
        (ready_more (base + width condition) (omega arith) (ready_inner c m turns ts T ready)) (stable_same (base + width condition) (omega arith) (stable_dest c m turns ts d T stable)) ending
        (after_through (type_of (scopes env) on_true) (λ x f memory follows. walks (subst (λ rest. FollowsText c m x (Continues (at c m turns ts rest f memory))) (sym is) follows)) a)
        h f memory level s p
    if_follows st sf ft ff ready stable ending a false h f memory level s p =
        let inner = placed_in (ending_select env labels (inner_valued valued T) tail (inner_dest T b d) (base + width condition) on_true else_code) ending in
        let is : after_label (suc (suc b)) m.code ≡ false_code =
        labelled.behind_is (suc (suc b)) (bare_mark (mark.Else (suc (suc b)) (suc (suc (suc b))))) false_code inner.ending (eq-eqb (suc (suc b)) (suc (suc b)) refl) in
        subst (λ rest. FollowsText c m (does (text_setting c) turns on_false tail h memory kk) (Continues (at c m turns ts rest f memory))) (sym is)
        (sf env labels (inner_valued valued T) tail (inner_dest T b d) (base + width condition + width on_true) end_code P kk ff
        (ready_more (base + width condition + width on_true) (omega arith) (ready_inner c m turns ts T ready))
        (stable_same (base + width condition + width on_true) (omega arith) (stable_dest c m turns ts d T stable)) (placed_next refl inner)
        (after_through (type_of (scopes env) on_false) (λ x f memory follows. walks follows) a)
        h f memory level s p)

    pub selected_if : SelectedTest c m turns ts condition → Selected c m turns ts on_true → Selected c m turns ts on_false → width (If place condition on_true on_false) < 2 ^ 60 →
        Ready c m turns ts env labels b d → Stable env b d.number P → Placed m ts (select env labels valued tail d b (If place condition on_true on_false) next) →
        After c m turns ts (Some T) env labels valued tail d next P k →
        (h : Here) (f : File) (memory : Memory) → Level c m turns ts h → Stands env h.names f → P f →
        FollowsText c m (does (text_setting c) turns (If place condition on_true on_false) tail h memory k) (Continues (at c m turns ts (select env labels valued tail d b (If place condition on_true on_false) next) f memory))
    selected_if sc st sf fine ready stable ending after h f memory level s p =
        let first : 21 ≤ b = let less = ready.below in let le = ready.first in omega (arith, less, le) in
        let a = after_typed c m turns ts T b after in
        let value = inside_in (inside_more refl inside_all) (ending_select env labels false false (fresh_register (suc b) (type_of (scopes env) condition)) base condition (if_mark ∷ true_code)) in
        let go_on = placed_in (ending_test env labels (suc (suc b)) base condition _ true_code value) ending in
        node_follows c m turns ts (If place condition on_true on_false) h memory
        (part.with_value (does (text_setting c) turns condition false h memory) (λ v h memory. proper (condition_of (sizes memory) v) memory (λ holds.
        cond holds (does (text_setting c) turns on_true tail h memory) (does (text_setting c) turns on_false tail h memory)))) k _ s
        (sc env labels (suc (suc b)) (suc b) b d.number base true_code P kk (λ holds h memory. cond holds (does (text_setting c) turns on_true tail h memory) (does (text_setting c) turns on_false tail h memory)) (omega (arith, fine))
        ready.lower ready.under first (omega arith) (omega arith) stable ending a.outs h f memory level s p
        (if_follows st sf (omega (arith, fine)) (omega (arith, fine)) ready stable go_on a))

  -- ---- sequences

  -- a part whose value is not wanted
  pub ignored : {env : List NamedRegister} {labels : List Label} {P : File → Type 0} (e : Expression) → Selected c m turns ts e → width e < 2 ^ 60 →
      (n i : ℕ) (next : List Instr) (go : Here → Memory → Part (Option Value)) (k : Leaves (Option Value) → Does) → Ready c m turns ts env labels i (fresh_register n (type_of (scopes env) e)) → Stable env i n P →
      Placed m ts (select env labels false false (fresh_register n (type_of (scopes env) e)) i e next) →
      Outs c m turns ts env labels P k → (h : Here) (f : File) (memory : Memory) → Level c m turns ts h → Stands env h.names f → P f →
      ((h : Here) (f : File) (memory : Memory) → Level c m turns ts h → Stands env h.names f → P f → FollowsText c m (go h memory k) (Continues (at c m turns ts next f memory))) →
      FollowsText c m (part.and_then (does (text_setting c) turns e false h memory) (λ _ h memory. go h memory) k) (Continues (at c m turns ts (select env labels false false (fresh_register n (type_of (scopes env) e)) i e next) f memory))
  ignored {env} {labels} {P} e selected fine n i next go k ready stable ending outs h f memory level s p on =
      selected env labels false false (fresh_register n (type_of (scopes env) e)) i next P (λ l. onward (λ _ h memory. go h memory) l k) fine ready stable ending
      (record {
        outs = record { exit = λ l values h f memory level r p. outs.exit l values h f memory level r p; raising = λ v fv h f memory level r p. outs.raising v fv h f memory level r p };
        giving = λ v h f memory level s p left. on h f memory level s p;
        lost = λ v h f memory s x misfit'. absurd (lost v x misfit');
        untried = λ q. absurd (true≢false (sym q));
        tailing = λ q. absurd (true≢false (sym q));
      })
      h f memory level s p
    where
      lost : (v : Value) → Fit c m turns ts (Some (type_of (scopes env) e)) v → fits c.setting.end (type_of_comp (comp_of_type (type_of (scopes env) e))) v ≡ false → ⊥
      lost v (fit x) misfit' = true≢false (sym (own_fits c m turns ts (type_of (scopes env) e) v x) ∙ misfit')
