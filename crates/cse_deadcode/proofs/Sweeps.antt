-- The end of the sweeps is exactly what is used.
use Rattle.std.proofs.Common.{◌≡◌, ℕ, ◌≤◌, Bool, true, false, not, ◌||◌, ◌&&◌, List, [], length, ◌∙◌, ap, inl, inr, arith, refl}
use Rattle.std.proofs.lemmas.Bool.{cases_lt, both_ways}
use Rattle.bs_words.specs.Contents.{contents}
use Rattle.dataflow.specs.declared.flow.Flow as flow
use Rattle.dataflow.specs.Flow.{graph}
use Rattle.dataflow.proofs.Progress.{Solving}
use Rattle.dataflow.proofs.Sweeps.{table_past}
use Rattle.cse_deadcode.specs.Flows.{is_used_before, is_wanted, AreUsed, AreRowsUsed, IsClosedForUse}
use Rattle.cse_deadcode.proofs.Steps.{used_member}

and_false : (b : Bool) → b && false ≡ false
and_false true = refl
and_false false = refl

-- no number enters a place past the last
closed_past : (f : flow.Flow) (c : ℕ → Bool) (rows : List (List Bool)) (p : ℕ) → length (contents f.places) ≤ p → IsClosedForUse (graph f) c rows p
closed_past f c rows p past =
    let n : (graph f).next p ≡ [] = table_past (λ y. contents y.next) (contents f.places) p past in
    let a : (graph f).aside p ≡ [] = table_past (λ y. contents y.aside) (contents f.places) p past in
    let d : (graph f).reads p ≡ [] = table_past (λ y. contents y.reads) (contents f.places) p past in
    record {
      member = λ r entered.
          let none : is_used_before (c p) ((graph f).next p) ((graph f).aside p) ((graph f).reads p) ((graph f).writes p) rows r ≡ false =
          ap (λ (l : List ℕ). is_used_before (c p) l ((graph f).aside p) ((graph f).reads p) ((graph f).writes p) rows r) n ∙ (ap (λ (l : List ℕ). is_used_before (c p) [] l ((graph f).reads p) ((graph f).writes p) rows r) a ∙ ap (λ (l : List ℕ). is_used_before (c p) [] [] l ((graph f).writes p) rows r) d)
          ∙ and_false (not (c p) || is_wanted [] ((graph f).writes p) rows) in
          absurd (both_ways _ none entered);
    }

-- the sets say exactly what is used
pub solved : (f : flow.Flow) (c : ℕ → Bool) (rows : List (List Bool)) (set : List Bool) (grew : Bool) → grew ≡ false →
    Solving (AreRowsUsed (graph f) c) (IsClosedForUse (graph f) c) (length (contents f.places)) f.bound rows set grew → AreUsed f c rows
solved f c rows set grew unchanged s =
    record {
      exact = λ p r. (
        s.sound.used p r,
        λ u.
            used_member (graph f) c rows
            (λ q. elim (cases_lt q (length rows)) [
              | inl below ↦ s.closed unchanged q below
              | inr past ↦ closed_past f c rows q (omega (arith, s.len))
            ]) u,
      );
    }
