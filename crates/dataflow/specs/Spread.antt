-- One sweep over the places in their order.
use Rattle.std.specs.Prelude.{◌≡◌, ℕ, ◌<◌, ◌≤◌, Bool, true, false, not, ◌||◌, ◌&&◌, ◌==◌, List, length}
use Rattle.std.specs.List.{list_any}
use Rattle.bs_words.specs.Contents.{contents}
use Rattle.bs_bits.specs.Set.{has}
use Rattle.dataflow.specs.declared.flow.Place as place
use Rattle.dataflow.specs.declared.flow.Flow as flow
use Rattle.dataflow.specs.Flow.{Graph, graph}
use Rattle.dataflow.specs.Progress.{missing, VisitOf, SweepOf}
use Rattle.dataflow.specs.Reach.{ComesTo}
use Rattle.dataflow.specs.Rows.{set_in_row, HasSizes}

-- a set was added to the sets of places
pub record Pushed (marks : List Bool) (old new : List (List Bool)) (places : List ℕ)
    (grew : Bool) : Type 0 where
  pub len : length new ≡ length old
  pub sizes : HasSizes (length marks) new
  pub members : (q r : ℕ)
      → q < length old
      → has (set_in_row new q) r ≡ (has (set_in_row old q) r || (list_any (λ k. k == q) places && has marks r))
  pub same : grew ≡ false → new ≡ old
  pub most : missing new ≤ missing old
  pub fewer : grew ≡ true → missing new < missing old

-- Whether r arrives at q from place p, as far as the rows say what came to p. The place generates the numbers of
-- `gen`, and kills those of `kill`.
abbrev pub arrives : List ℕ → List ℕ → List ℕ → List ℕ → List (List Bool) → ℕ → ℕ → ℕ → Bool
arrives next aside gen kill rows p q r =
    let kept = has (set_in_row rows p) r && not (list_any (λ k. k == r) kill) in
    (list_any (λ k. k == q) aside && has (set_in_row rows p) r)
    || (list_any (λ k. k == q) next && (kept || list_any (λ k. k == r) gen))

-- what comes to a place was spread from it; what comes to it by its own edges waits for the next time
pub record Spread (x : place.Place) (bound : ℕ) (old new : List (List Bool)) (p : ℕ)
    (grew : Bool) : Type 0 where
  pub len : length new ≡ length old
  pub sizes : HasSizes bound new
  pub members : (q r : ℕ)
      → q < length old
      → has (set_in_row new q) r ≡
      (has (set_in_row old q) r || arrives (contents x.next) (contents x.aside) (contents x.reads)
      (contents x.writes) old p q r)
  pub same : grew ≡ false → new ≡ old
  pub fewer : grew ≡ true → missing new < missing old

-- each member comes
pub record IsComing (g : Graph) (rows : List (List Bool)) : Type 0 where
  pub comes : (p r : ℕ) → has (set_in_row rows p) r ≡ true → ComesTo g p r

-- what arrives from place p is a member
pub record IsSpreadFrom (g : Graph) (rows : List (List Bool)) (p : ℕ) : Type 0 where
  pub member : (q r : ℕ)
      → q < length rows
      → arrives (g.next p) (g.aside p) (g.reads p) (g.writes p) rows p q r ≡ true
      → has (set_in_row rows q) r ≡ true

-- a visit of place p
abbrev pub Moved : flow.Flow → List (List Bool) → List (List Bool) → ℕ → Bool → Type 0
Moved f = VisitOf (IsComing (graph f)) (IsSpreadFrom (graph f)) f.bound

-- a sweep over all places
abbrev pub SweptOn : flow.Flow → List (List Bool) → List (List Bool) → Bool → Type 0
SweptOn f = SweepOf (IsComing (graph f)) (IsSpreadFrom (graph f)) f.bound
