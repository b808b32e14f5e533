-- After a label of selected code comes what its one mark has after it.
use Rattle.std.proofs.Common.{◌≡◌, ℕ, true, cond, ⊎_elim, List, ◌∷◌, ap, ◌∙◌}
use Rattle.std.proofs.lemmas.Bool.{cases_Bool, or_left, or_right, or_parts}
use Rattle.cmm_tree.specs.Tree.{FunctionTree}
use Rattle.mach_ir.specs.declared.mach.Instr.{Instr}
use Rattle.mach_ir.specs.declared.mach.Mach.{Mach}
use Rattle.mach_ir.specs.Meaning.{has_label as marks_of, after_label, is_handler_of, from_handler}
use Rattle.selection_rules.specs.Select.{selected}
use Rattle.mach_laws.specs.Expand.{Ending, all, more}
use Rattle.selection_rules.proofs.Parts.{WellLabelled}
use Rattle.selection_rules.proofs.Once.{marks, labelled, Distinct, cons, no_mark_in, selected_once}

behind_one : (l : ℕ) {i : Instr} {rest code : List Instr} → Ending (i ∷ rest) code → Distinct labelled code → marks_of l i.op ≡ true → after_label l code ≡ rest
behind_one l {rest = rest} all d m = ap (λ b. cond b rest (after_label l rest)) m
behind_one l {i} {rest} (more {i = j} {code = code} x) (cons apart d) m =
    ⊎_elim (λ e. absurd (no_mark_in x (apart l e) (or_right (is_handler_of l i.op) (marks_of l i.op) m)))
    (λ e. ap (λ b. cond b code (after_label l code)) (or_parts (is_handler_of l j.op) (marks_of l j.op) e).1 ∙ behind_one l x d m) (cases_Bool (marks l j.op))

onto_one : (l : ℕ) {i : Instr} {rest code : List Instr} → Ending (i ∷ rest) code → Distinct labelled code → is_handler_of l i.op ≡ true → from_handler l code ≡ i ∷ rest
onto_one l {i} {rest} all d m = ap (λ b. cond b (i ∷ rest) (from_handler l rest)) m
onto_one l {i} {rest} (more {i = j} {code = code} x) (cons apart d) m =
    ⊎_elim (λ e. absurd (no_mark_in x (apart l e) (or_left (is_handler_of l i.op) (marks_of l i.op) m)))
    (λ e. ap (λ b. cond b (j ∷ code) (from_handler l code)) (or_parts (is_handler_of l j.op) (marks_of l j.op) e).0 ∙ onto_one l x d m) (cases_Bool (marks l j.op))

pub well_labelled : (m : Mach) → Distinct labelled m.code → WellLabelled m
well_labelled m d = record { behind_is = λ l i rest e k. behind_one l e d k; onto_is = λ l i rest e k. onto_one l e d k }

-- Selected code is well labelled.
pub selected_labelled : (f : FunctionTree) → WellLabelled (selected f)
selected_labelled f = well_labelled (selected f) (selected_once f)
