-- The end of the sweeps is exactly what is live.
use Rattle.std.proofs.Common.{◌≡◌, ℕ, zero, suc, ◌≤◌, Bool, false, List, [], ◌∷◌, length, map, get_or, ◌∙◌, ap, inl, inr, arith, refl}
use Rattle.std.proofs.lemmas.Bool.{cases_lt, both_ways}
use Rattle.bs_words.specs.Contents.{contents}
use Rattle.dataflow.specs.declared.flow.Place as place
use Rattle.dataflow.specs.declared.flow.Flow as flow
use Rattle.dataflow.specs.Flow.{graph}
use Rattle.dataflow.specs.Live.{IsLiveness}
use Rattle.dataflow.specs.Sweep.{enters, AreRowsLive, IsClosedAt}
use Rattle.dataflow.proofs.Progress.{Solving}
use Rattle.dataflow.proofs.Steps.{live_member}

pub table_past : (field : place.Place → List ℕ) (xs : List place.Place) (p : ℕ) → length xs ≤ p → get_or (map field xs) p [] ≡ []
table_past field [] p past = refl
table_past field (x ∷ xs) zero past = absurd (omega (arith, past))
table_past field (x ∷ xs) (suc p) past = table_past field xs p (omega (arith, past))

-- no number enters a place past the last
closed_past : (f : flow.Flow) (rows : List (List Bool)) (p : ℕ) → length (contents f.places) ≤ p → IsClosedAt (graph f) rows p
closed_past f rows p past =
    let n : (graph f).next p ≡ [] = table_past (λ y. contents y.next) (contents f.places) p past in
    let a : (graph f).aside p ≡ [] = table_past (λ y. contents y.aside) (contents f.places) p past in
    let d : (graph f).reads p ≡ [] = table_past (λ y. contents y.reads) (contents f.places) p past in
    record {
      member = λ r entered.
          let none : enters ((graph f).next p) ((graph f).aside p) ((graph f).reads p) ((graph f).writes p) rows r ≡ false =
          ap (λ (l : List ℕ). enters l ((graph f).aside p) ((graph f).reads p) ((graph f).writes p) rows r) n ∙ (ap (λ (l : List ℕ). enters [] l ((graph f).reads p) ((graph f).writes p) rows r) a ∙ ap (λ (l : List ℕ). enters [] [] l ((graph f).writes p) rows r) d) in
          absurd (both_ways _ none entered);
    }

-- the sets say exactly what is live
pub solved : (f : flow.Flow) (rows : List (List Bool)) (set : List Bool) (grew : Bool) → grew ≡ false → Solving (AreRowsLive (graph f)) (IsClosedAt (graph f)) (length (contents f.places)) f.bound rows set grew → IsLiveness f rows
solved f rows set grew unchanged s = record {
  len = s.len;
  sizes = s.sizes;
  exact = λ p r. (s.sound.live p r, λ live. live_member (graph f) rows (λ q. elim (cases_lt q (length rows)) [ inl below ↦ s.closed unchanged q below | inr past ↦ closed_past f rows q (omega (arith, s.len)) ]) live.0 p r live.1);
}
