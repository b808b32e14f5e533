-- An exit that has no words, and the labels up to that to which it goes, lie where the branch does.
use Rattle.std.proofs.Common.{◌≡◌, ℕ, suc, true, List, [], ◌∷◌, ◌++◌, length, Option, refl, sym, ap, ◌∙◌, subst}
use Rattle.rv_emit_rules.specs.Emitted.{part_before}
use Rattle.rv_emit_rules.specs.Entry.{FrameLayout}
use Rattle.rv_emit_rules.specs.Units.{is_free_exit}
use Rattle.rv_emit_rules.proofs.Units.{FallsTo, falls_here, falls_past, branch_code, falls_after, label_line, own_label_line, part_if_free}
use Rattle.rv_layout_rules.specs.declared.form.Form.{Form}
use Rattle.rv_layout_rules.specs.Forms.{total_words}
use Rattle.lin_ir.specs.Formed.{WellFormed, label_of, labels_in}
use Rattle.lin_ir.specs.Meaning.{after_label}
use Rattle.lin_ir.specs.Walks.{StandsAsLine}
use Rattle.lin_ir.specs.declared.descr.Descr.{Descr}
use Rattle.lin_ir.specs.declared.lin.Flow.TheVariants as flow
use Rattle.lin_ir.specs.declared.lin.Lin.{Lin}
use Rattle.lin_ir.specs.declared.lin.Line.{Line}
use Rattle.lin_ir.specs.declared.lin.LinOp.{LinOp}
use Rattle.lin_ir.specs.declared.lin.LinOp.TheVariants as lin
use Rattle.linearise_rules.proofs.Homes.{IsIn, is_first, is_later}
use Rattle.linearise_rules.proofs.Walked.{Tail, stands_tail, tail_next, tail_stands}
use Rattle.lin_tidy_rules.proofs.Ends.{later_after}
use Rattle.function_stands.proofs.Parts.{Place, place_stays}

-- ---- the label

named_in : {l : ℕ} {next : List Line} → FallsTo l next → IsIn l (labels_in next)
named_in {l} (falls_here {i = i} {j = j} {rest = rest} has tests) =
    subst (λ g. IsIn l (label_of g ++ labels_in (j ∷ rest))) (sym (own_label_line l i.op has)) is_first
named_in {l} (falls_past {i = i} {next = next} other mark falls) =
    let line = label_line i.op mark in subst (λ g. IsIn l (label_of g ++ labels_in next)) (sym line.is) (is_later (named_in falls))

-- labels occur once
pub falls_in : {i : Line} {next : List Line} {l : ℕ} (m : Lin) → WellFormed m → StandsAsLine i next m.code → (falls : FallsTo l next) →
    after_label l m.code ≡ branch_code falls
falls_in {l = l} m well stands falls = later_after l (tail_next (stands_tail stands)) well.labels (named_in falls) ∙ falls_after falls

-- ---- no words

module _ (traps : ℕ → ℕ) (f : FrameLayout) where
  free_none : (i : Line) (next : List Line) → is_free_exit i.op next ≡ true → (d : Option Descr) (gs : List Form) →
      total_words (part_before (traps (length next)) f d i next) gs ≡ 0
  free_none i next e d gs = ap (λ ps. total_words ps gs) (part_if_free (traps (length next)) f d i next e)

  label_none : (l : ℕ) (i : Line) (next : List Line) → i.op ≡ lin.Flow (flow.Label l) → (d : Option Descr) (gs : List Form) →
      total_words (part_before (traps (length next)) f d i next) gs ≡ 0
  label_none l i next e d gs =
      subst (λ (g : LinOp). total_words (part_before (traps (length next)) f d (record { op = g; args = i.args; results = i.results }) next) gs ≡ 0)
      (sym e) (by gs)
    where
      by : (gs : List Form) →
          total_words (part_before (traps (length next)) f d (record { op = lin.Flow (flow.Label l); args = i.args; results = i.results }) next) gs ≡ 0
      by [] = refl
      by (g ∷ gs) = refl

  labels_place : (l : ℕ) {next : List Line} (ds : List Descr) (code : List Line) (fs : List Form) (at : ℕ) → Tail next code → (falls : FallsTo l next) →
      Place traps f ds code fs at (length (branch_code falls)) ≡ Place traps f ds code fs at (length next)
  labels_place l ds code fs at t (falls_here {i = i} {j = j} {rest = rest} has tests) =
      place_stays traps f ds code fs at (tail_stands t) (label_none l i (j ∷ rest) (own_label_line l i.op has))
  labels_place l ds code fs at t (falls_past {i = i} {next = next} other mark falls) =
      let line = label_line i.op mark in
      labels_place l ds code fs at (tail_next t) falls ∙ place_stays traps f ds code fs at (tail_stands t) (label_none line.number i next line.is)

  -- The exit begins where the branch does.
  pub free_place : {i : Line} {next : List Line} (ds : List Descr) (code : List Line) (fs : List Form) (at l : ℕ) → StandsAsLine i next code →
      is_free_exit i.op next ≡ true → (falls : FallsTo l next) →
      Place traps f ds code fs at (length (branch_code falls)) ≡ Place traps f ds code fs at (suc (length next))
  free_place {i} {next} ds code fs at l stands e falls =
      labels_place l ds code fs at (tail_next (stands_tail stands)) falls ∙ place_stays traps f ds code fs at stands (free_none i next e)
