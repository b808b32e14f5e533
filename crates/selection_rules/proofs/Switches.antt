-- Switches.
use Rattle.std.proofs.Common.{◌≡◌, ℕ, zero, suc, ◌+◌, ◌<◌, ◌≤◌, Bool, true, false, cond, List, [], ◌∷◌, Option, Some, None, Result, Ok, Err, refl, sym, subst, arith, ◌^◌}
use Rattle.std.specs.Prelude.{nat_lt}
use Rattle.std.proofs.lemmas.Bool.{eq-eqb, ltb-true}
use Rattle.bs_words.specs.Memory.{Memory}
use Rattle.bs_words.specs.Operators.{word_in}
use Rattle.bs_words.specs.declared.types.Ty.{Ty}
use Rattle.bs_words.specs.declared.values.Kind.{Kind}
use Rattle.bs_words.specs.declared.values.Kind.TheVariants.{SwitchRange}
use Rattle.bs_words.specs.declared.values.Value.{Value}
use Rattle.cmm_tree.specs.Tree.{Index, Expression, Switch, Cases, NoCase, Choose}
use Rattle.cmm_types.specs.Types.{type_of}
use Rattle.cmm_meaning.specs.Choices.{is_named, Chosen, case_for, last_naming, first_case}
use Rattle.cmm_meaning.specs.State.{Here}
use Rattle.meaning_laws.specs.Does.{Leaves, Does}
use Rattle.meaning_laws.specs.Interaction.{Part, Operand, onward, of_type, proper, does, choices, chosen}
use Rattle.mach_ir.specs.declared.reg.Reg.{Reg}
use Rattle.mach_ir.specs.declared.mach.Instr.{Instr}
use Rattle.mach_ir.specs.declared.mach.Mach.{Mach}
use Rattle.mach_ir.specs.Runs.{ActivationSetting, Continues}
use Rattle.mach_ir.specs.Meaning.{File, with_held, on_act, after_label}
use Rattle.mach_ir.specs.Acts.{Around, goes_to_case, Goes, At}
use Rattle.mach_ir.specs.Formed.{indexes_to_label}
use Rattle.selection_rules.specs.Kept.{on_lossless_values}
use Rattle.selection_rules.specs.Select.{NamedRegister, Label, scopes, fresh_register, inner_valued, inner_dest, width, count_cases, width_cases, label_of_last_case, switch_labels, select, select_cases}
use Rattle.selection_rules.specs.Follow.{FollowsText, walks, fails}
use Rattle.selection_rules.proofs.Files.{Stands}
use Rattle.selection_rules.proofs.Parts.{Placed, placed_in, placed_next, WellLabelled, Stable, stable_inner, stable_same, calm, at, Level, After, after_typed, node_follows, Ready}
use Rattle.selection_rules.proofs.Operands.{Selected, operand, ready_at}
use Rattle.selection_rules.proofs.Endings.{ending_select, ending_cases}
use Rattle.selection_rules.proofs.Leaves.{ready_inner, stable_dest}
use Rattle.selection_rules.proofs.Branches.{ready_more, after_through}
use Rattle.meaning_laws.specs.Interaction as part
use Rattle.selection_rules.specs.Instructions as emit
use Rattle.selection_rules.specs.Instructions.{bare_mark}
use Rattle.mach_ir.specs.declared.mach.Mark.TheVariants as mark
use Rattle.selection_rules.specs.Follow.{text_setting}

module _ (c : ActivationSetting) (m : Mach) (turns : ℕ) (ts : List ℕ) where
  module _ (env : List NamedRegister) (tail : Bool) (P : File → Type 0) (kk : Leaves (Option Value) → Does) where
    -- the body of a case follows, after its label
    pub record CaseOk (x : Chosen Operand) (l : ℕ) : Type 0 where
      pub body : (h : Here) (f : File) (memory : Memory) → Level c m turns ts h → Stands env h.names f → P f → FollowsText c m (x.body h memory kk) (Continues (at c m turns ts (after_label l m.code) f memory))

    pub data CasesOk : List (Chosen Operand) → ℕ → Type 0 where
      no_ok : {l : ℕ} → CasesOk [] l
      an_ok : {x : Chosen Operand} {xs : List (Chosen Operand)} {l : ℕ} → CaseOk x l → CasesOk xs (suc l) → CasesOk (x ∷ xs) l

    data Picked : Option (Chosen Operand) → ℕ → Type 0 where
      picked_none : {l : ℕ} → Picked None l
      picked : {x : Chosen Operand} {l : ℕ} → CaseOk x l → Picked (Some x) l

    pick_if : {x : Chosen Operand} {l n : ℕ} {o : Option (Chosen Operand)} (q : Bool) → CaseOk x l → Picked o n → Picked (cond q (Some x) o) (cond q l n)
    pick_if true ok p = picked ok
    pick_if false ok p = p

    pick_last : (cs : Cases) (l k n : ℕ) (o : Option (Chosen Operand)) → CasesOk (choices (text_setting c) turns cs tail) l → Picked o n → Picked (last_naming (choices (text_setting c) turns cs tail) k o) (label_of_last_case l cs k n)
    pick_last NoCase l k n o all p = p
    pick_last (Choose indexes body rest) l k n o (an_ok {x = x} ok all) p = pick_last rest (suc l) k (cond (is_named indexes k) l n) (cond (is_named indexes k) (Some x) o) all (pick_if (is_named indexes k) ok p)

    pick_first : (cs : Cases) (l : ℕ) → CasesOk (choices (text_setting c) turns cs tail) l → Picked (first_case (choices (text_setting c) turns cs tail)) l
    pick_first NoCase l all = picked_none
    pick_first (Choose indexes body rest) l (an_ok ok all) = picked ok

    pub chosen_follows : (cs : Cases) (l k : ℕ) → CasesOk (choices (text_setting c) turns cs tail) l → (h : Here) (f : File) (memory : Memory) → Level c m turns ts h → Stands env h.names f → P f →
        FollowsText c m (chosen (case_for (choices (text_setting c) turns cs tail) k) h memory kk) (Continues (at c m turns ts (after_label (label_of_last_case l cs k l) m.code) f memory))
    chosen_follows cs l k all h f memory level s p = by (case_for (choices (text_setting c) turns cs tail) k) (label_of_last_case l cs k l) (pick_last cs l k l (first_case (choices (text_setting c) turns cs tail)) all (pick_first cs l all))
      where
        by : (o : Option (Chosen Operand)) (n : ℕ) → Picked o n → FollowsText c m (chosen o h memory kk) (Continues (at c m turns ts (after_label n m.code) f memory))
        by o n picked_none = fails
        by o n (picked ok) = ok.body h f memory level s p

  -- the label for a number is at it
  case_follows : (x : Does) (i : Instr) (next : List Instr) (f : File) (a b : Around) (l : ℕ) (cs : Cases) (j size n : ℕ) → n < size → FollowsText c m x (on_act c m i next f b (Goes [] (At (label_of_last_case l cs (j + n) l)) a)) →
      FollowsText c m x (on_act c m i next f b (goes_to_case a (switch_labels l cs j size) (Ok n)))
  case_follows x i next f a b l cs j zero n less follows = absurd (omega (arith, less))
  case_follows x i next f a b l cs j (suc size) zero less follows =
      let e : j + 0 ≡ j = omega arith in
      subst (λ k. FollowsText c m x (on_act c m i next f b (Goes [] (At (label_of_last_case l cs k l)) a))) e follows
  case_follows x i next f a b l cs j (suc size) (suc n) less follows =
      let e : j + suc n ≡ suc j + n = omega arith in
      case_follows x i next f a b l cs (suc j) size n (omega (arith, less)) (subst (λ k. FollowsText c m x (on_act c m i next f b (Goes [] (At (label_of_last_case l cs k l)) a))) e follows)

  -- ---- cases, in the code

  abbrev pub SelectedCases : Cases → Type 1
  SelectedCases cs =
      (labelled : WellLabelled m) (env : List NamedRegister) (labels : List Label) (valued tail : Bool) (d : Reg) (next : List Instr) (P : File → Type 0) (kk : Leaves (Option Value) → Does) (places : List ℕ) (end l i : ℕ) →
      width_cases cs < 2 ^ 60 → after_label end m.code ≡ next → Placed m ts (select_cases env labels valued tail d places end l i cs (bare_mark (mark.End end) ∷ next)) →
      Ready c m turns ts env labels i d → Stable env i d.number P → After c m turns ts None env labels valued tail d next P kk → CasesOk env tail P kk (choices (text_setting c) turns cs tail) l

  pub cases_none : SelectedCases NoCase
  cases_none labelled env labels valued tail d next P kk places end l i fine is placed ready stable a = no_ok

  module _ (env : List NamedRegister) (labels : List Label) (valued tail : Bool) (d : Reg) (next : List Instr) (places : List ℕ) (end : ℕ) where
    case_falls : (l i : ℕ) (cs : Cases) → after_label end m.code ≡ next → (x : Does) (f : File) (memory : Memory) → FollowsText c m x (Continues (at c m turns ts next f memory)) →
        FollowsText c m x (Continues (at c m turns ts (select_cases env labels valued tail d places end l i cs (bare_mark (mark.End end) ∷ next)) f memory))
    case_falls l i NoCase is x f memory follows = walks follows
    case_falls l i (Choose indexes body rest) is x f memory follows = walks (subst (λ code. FollowsText c m x (Continues (at c m turns ts code f memory))) (sym is) follows)

  pub cases_more : (indexes : List Index) (body : Expression) (rest : Cases) → Selected c m turns ts body → SelectedCases rest → SelectedCases (Choose indexes body rest)
  cases_more indexes body rest sb sr labelled env labels valued tail d next P kk places end l i fine is placed ready stable a =
      let rest_code = select_cases env labels valued tail d places end (suc l) (i + width body) rest (bare_mark (mark.End end) ∷ next) in
      let body_code = select env labels valued tail d i body rest_code in
      let inner = placed_next refl placed in
      an_ok
      (record {
        body = λ h f memory level s p.
            subst (λ code. FollowsText c m (does (text_setting c) turns body tail h memory kk) (Continues (at c m turns ts code f memory)))
            (sym (labelled.behind_is l (bare_mark (mark.Case (indexes_to_label l 0 places) l end)) body_code placed.ending (eq-eqb l l refl)))
            (sb env labels valued tail d i rest_code P kk (omega (arith, fine)) ready stable inner
            (after_through c m turns ts (type_of (scopes env) body) (λ x f memory follows. case_falls env labels valued tail d next places end (suc l) (i + width body) rest is x f memory follows) a) h f memory level s p);
      })
      (sr labelled env labels valued tail d next P kk places end (suc l) (i + width body) (omega (arith, fine)) is (placed_in (ending_select env labels valued tail d i body rest_code) inner) (ready_more c m turns ts (i + width body) (omega arith) ready)
      (stable_same (i + width body) (omega arith) stable) a)

  -- ---- the switch

  module _ (labelled : WellLabelled m) (place size_at size : ℕ) (selector : Expression) (cases : Cases) (env : List NamedRegister) (labels : List Label) (valued tail : Bool) (d : Reg) (b : ℕ) (next : List Instr)
      (P : File → Type 0) (k : Leaves (Option Value) → Does) where
    abbrev T : Ty
    T = type_of (scopes env) (Switch place size_at size selector cases)

    abbrev kk : Leaves (Option Value) → Does
    kk = λ l. onward (λ v h memory. of_type c.setting.end T v h memory) l k

    abbrev end : ℕ
    end = suc (suc b)

    abbrev l : ℕ
    l = suc (suc (suc b))

    abbrev base : ℕ
    base = l + count_cases cases

    abbrev end_code : List Instr
    end_code = bare_mark (mark.End end) ∷ next

    abbrev cases_code : List Instr
    cases_code = select_cases env labels (inner_valued valued T) tail (inner_dest T b d) (switch_labels l cases 0 size) end l (base + width selector) cases end_code

    abbrev instr : Instr
    instr = emit.choose (switch_labels l cases 0 size) (fresh_register (suc b) (type_of (scopes env) selector))

    abbrev go : ℕ → Here → Memory → Part (Option Value)
    go n h memory = cond (nat_lt n size) (chosen (case_for (choices (text_setting c) turns cases tail) n) h memory) (part.fails SwitchRange memory)

    switched : CasesOk env tail P kk (choices (text_setting c) turns cases tail) l → (h : Here) (f : File) (memory : Memory) → Level c m turns ts h → Stands env h.names f → P f → (r : Result ℕ Kind) →
        FollowsText c m (proper r memory (λ n. go n h memory) kk) (on_act c m instr cases_code f (calm c m turns ts memory) (goes_to_case (calm c m turns ts memory) (switch_labels l cases 0 size) r))
    switched all h f memory level s p (Err kind) = fails
    switched all h f memory level s p (Ok n) = by (nat_lt n size) refl
      where
        by : (g : Bool) → nat_lt n size ≡ g → FollowsText c m (cond g (chosen (case_for (choices (text_setting c) turns cases tail) n) h memory) (part.fails SwitchRange memory) kk)
            (on_act c m instr cases_code f (calm c m turns ts memory) (goes_to_case (calm c m turns ts memory) (switch_labels l cases 0 size) (Ok n)))
        by false e = fails
        by true e =
            let same : n ≡ 0 + n = omega arith in
            case_follows (chosen (case_for (choices (text_setting c) turns cases tail) n) h memory kk) instr cases_code f (calm c m turns ts memory) (calm c m turns ts memory) l cases 0 size n (ltb-true n size e)
            (subst (λ j. FollowsText c m (chosen (case_for (choices (text_setting c) turns cases tail) n) h memory kk) (Continues (at c m turns ts (after_label (label_of_last_case l cases j l) m.code) f memory))) same
            (chosen_follows env tail P kk cases l n all h f memory level s p))

    pub selected_switch : Selected c m turns ts selector → SelectedCases cases → width (Switch place size_at size selector cases) < 2 ^ 60 →
        Ready c m turns ts env labels b d → Stable env b d.number P → Placed m ts (select env labels valued tail d b (Switch place size_at size selector cases) next) →
        After c m turns ts (Some T) env labels valued tail d next P k → (h : Here) (f : File) (memory : Memory) → Level c m turns ts h → Stands env h.names f → P f →
        FollowsText c m (does (text_setting c) turns (Switch place size_at size selector cases) tail h memory k) (Continues (at c m turns ts (select env labels valued tail d b (Switch place size_at size selector cases) next) f memory))
    selected_switch ss sc fine ready stable placed after h f memory level s p =
        let first : 21 ≤ b = let less = ready.below in let le = ready.first in omega (arith, less, le) in
        let a = after_typed c m turns ts T b after in
        let inner = placed_next refl (placed_in (ending_select env labels false false (fresh_register (suc b) (type_of (scopes env) selector)) base selector (instr ∷ cases_code)) placed) in
        let last = placed_in (ending_cases env labels (inner_valued valued T) tail (inner_dest T b d) (switch_labels l cases 0 size) end l (base + width selector) cases end_code) inner in
        let is : after_label end m.code ≡ next = labelled.behind_is end (bare_mark (mark.End end)) next last.ending (eq-eqb end end refl) in
        let all = sc labelled env labels (inner_valued valued T) tail (inner_dest T b d) next P kk (switch_labels l cases 0 size) end l (base + width selector) (omega (arith, fine)) is inner
        (ready_more c m turns ts (base + width selector) (omega arith) (ready_inner c m turns ts T ready)) (stable_same (base + width selector) (omega arith) (stable_dest c m turns ts d T stable)) a in
        node_follows c m turns ts (Switch place size_at size selector cases) h memory
        (part.with_value (does (text_setting c) turns selector false h memory) (λ v h memory. proper (word_in v) memory (λ n. go n h memory))) k _ s
        (operand c m turns ts selector ss (omega (arith, fine)) (suc b) base (instr ∷ cases_code) _ kk
        (ready_at c m turns ts (type_of (scopes env) selector) (suc b) base ready.lower ready.under first (omega arith) (omega arith)) (stable_inner (suc b) base (omega arith) (omega arith) stable)
        placed a.outs h f memory level s p
        (λ v h f memory level s p fv hv. walks (
        subst (λ o. FollowsText c m (proper (word_in v) memory (λ n. go n h memory) kk) (on_lossless_values c m instr cases_code f (calm c m turns ts memory) (with_held o (Some [])))) (sym hv.is)
        (switched all h f memory level s p (word_in v)))))
