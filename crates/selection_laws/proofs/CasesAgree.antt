-- Each case of selected code has the indexes that its switch takes to it.
use Rattle.std.proofs.Common.{◌≡◌, ℕ, ◌+◌, ◌⊎◌, inl, inr, Bool, true, false, cond, List, [], ◌∷◌, refl, sym, ap, ◌∙◌, subst}
use Rattle.std.specs.Prelude.{Contains, nat_eq}
use Rattle.std.proofs.lemmas.Bool.{eq-eqb, eqb-true}
use Rattle.cmm_tree.specs.Tree.{FunctionTree}
use Rattle.cmm_types.proofs.Containing.{contains_none, contains_cases, contains_head, contains_tail}
use Rattle.mach_ir.specs.Formed.{CasesAgree, indexes_to_label}
use Rattle.mach_ir.specs.Walks.{StandsAsInstr, here, below}
use Rattle.mach_ir.specs.declared.mach.Instr.{Instr}
use Rattle.mach_ir.specs.declared.mach.Mark.TheVariants as mark
use Rattle.mach_ir.specs.declared.mach.MachOp.TheVariants as mach
use Rattle.selection_rules.specs.Instructions as emit
use Rattle.selection_rules.specs.Select.{selected}
use Rattle.selection_rules.proofs.Once.{marks, labelled, no_mark_in, Distinct, cons, selected_once}
use Rattle.mach_laws.specs.Expand.{Ending, all, more}
use Rattle.mach_laws.proofs.Places.{ending_next, ending_of}
use Rattle.selection_rules.proofs.Parts.{ending_in}
use Rattle.selection_laws.specs.Fits.{FunctionFits}
use Rattle.selection_laws.proofs.Nested.{kept_of, selected_kept}

-- where an instruction is
record Somewhere (i : Instr) (code : List Instr) : Type 0 where
  next : List Instr
  there : StandsAsInstr i next code

somewhere : (i : Instr) (code : List Instr) → Contains code i → Somewhere i code
somewhere i [] c = absurd (contains_none i c)
somewhere i (j ∷ code) c = by (contains_cases j code i c) (somewhere i code)
  where
    by : (j ≡ i) ⊎ Contains code i → (Contains code i → Somewhere i code) → Somewhere i (j ∷ code)
    by (inl e) others = subst (λ j. Somewhere i (j ∷ code)) (sym e) (record { next = code; there = here })
    by (inr c) others = let s = others c in record { next = s.next; there = below s.there }

contained : {i : Instr} {rest code : List Instr} → Ending (i ∷ rest) code → Contains code i
contained {i} {rest} all = contains_head i rest
contained {i} (more {i = j} {code = code} e) = contains_tail j code i (contained e)

-- one instruction marks a label
same_mark : (l : ℕ) {i j : Instr} {a b code : List Instr} → Distinct labelled code → Ending (i ∷ a) code → Ending (j ∷ b) code → marks l i.op ≡ true → marks l j.op ≡ true → i ≡ j
same_mark l d all all x y = refl
same_mark l (cons apart d) all (more e) x y = absurd (no_mark_in e (apart l x) y)
same_mark l (cons apart d) (more e) all x y = absurd (no_mark_in e (apart l y) x)
same_mark l (cons apart d) (more e) (more f) x y = same_mark l d e f x y

no_indexes : (l n : ℕ) (labels : List ℕ) → (Contains labels l → ⊥) → indexes_to_label l n labels ≡ []
no_indexes l n [] out = refl
no_indexes l n (k ∷ labels) out = by (nat_eq k l) refl (no_indexes l (1 + n) labels (λ c. out (contains_tail k labels l c)))
  where
    by : (b : Bool) → nat_eq k l ≡ b → indexes_to_label l (1 + n) labels ≡ [] → cond b (n ∷ indexes_to_label l (1 + n) labels) (indexes_to_label l (1 + n) labels) ≡ []
    by true e others = absurd (out (subst (λ m. Contains (k ∷ labels) m) (eqb-true k l e) (contains_head k labels)))
    by false e others = others

case_marks_own : (i : Instr) (indexes : List ℕ) (l end : ℕ) → i.op ≡ mach.Mark (mark.Case indexes l end) → marks l i.op ≡ true
case_marks_own i indexes l end e = ap (λ f. marks l f) e ∙ eq-eqb l l refl

-- A case has the indexes for which its switch comes to it, and none where no switch does.
pub selected_cases : (f : FunctionTree) → FunctionFits f → CasesAgree (selected f)
selected_cases f fits =
    let kept = selected_kept f fits in
    record {
      agree = λ i j ci cj labels indexes l end is_switch is_case within.
          let si = somewhere i (selected f).code ci in
          let sj = somewhere j (selected f).code cj in
          let k = kept_of kept i si.next si.there in
          let t = k.takes labels is_switch l within in
          let there = ending_in t.there (ending_next (ending_of si.there)) in
          let same = same_mark l (selected_once f) (ending_of sj.there) there (case_marks_own j indexes l end is_case) (eq-eqb l l refl) in
          same_indexes indexes (indexes_to_label l 0 labels) l end l t.end (sym is_case ∙ ap (λ (i : Instr). i.op) same);
      none = λ j cj indexes l end is_case no_switch.
          let sj = somewhere j (selected f).code cj in
          let k = kept_of kept j sj.next sj.there in
          let c = k.taken indexes l end is_case in
          c.is ∙ no_indexes l 0 c.labels (λ within. no_switch (emit.choose c.labels c.index) (contained c.there) c.labels refl within);
    }
  where
    same_indexes : (a b : List ℕ) (l end k stop : ℕ) → mach.Mark (mark.Case a l end) ≡ mach.Mark (mark.Case b k stop) → a ≡ b
    same_indexes a b l end k stop e = cc
