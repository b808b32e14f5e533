-- One sweep over the places.
use Rattle.std.specs.Prelude.{◌≡◌, ℕ, Bool, true, not, ◌||◌, ◌&&◌, ◌==◌, List}
use Rattle.std.specs.List.{list_any}
use Rattle.bs_words.specs.Contents.{contents}
use Rattle.bs_bits.specs.Set.{has}
use Rattle.dataflow.specs.declared.flow.Place as place
use Rattle.dataflow.specs.declared.flow.Flow as flow
use Rattle.dataflow.specs.Flow.{Graph, graph, LiveBefore}
use Rattle.dataflow.specs.Progress.{VisitOf, SweepOf}
use Rattle.dataflow.specs.Rows.{set_in_row}

-- whether r is live before a place, as far as the rows say what is live before the next ones
abbrev pub enters : List ℕ → List ℕ → List ℕ → List ℕ → List (List Bool) → ℕ → Bool
enters next aside reads writes rows r =
    ((list_any (λ q. has (set_in_row rows q) r) next && not (list_any (λ k. k == r) writes)) || list_any
    (λ q. has (set_in_row rows q) r) aside) || list_any (λ k. k == r) reads

abbrev pub enters_place : place.Place → List (List Bool) → ℕ → Bool
enters_place x rows r =
    enters (contents x.next) (contents x.aside) (contents x.reads) (contents x.writes) rows r

-- each member is live
pub record AreRowsLive (g : Graph) (rows : List (List Bool)) : Type 0 where
  pub live : (p r : ℕ) → has (set_in_row rows p) r ≡ true → LiveBefore g p r

-- what enters place p is a member
pub record IsClosedAt (g : Graph) (rows : List (List Bool)) (p : ℕ) : Type 0 where
  pub member : (r : ℕ)
      → enters (g.next p) (g.aside p) (g.reads p) (g.writes p) rows r ≡ true
      → has (set_in_row rows p) r ≡ true

-- a visit of place p
abbrev pub Visited : flow.Flow → List (List Bool) → List (List Bool) → ℕ → Bool → Type 0
Visited f = VisitOf (AreRowsLive (graph f)) (IsClosedAt (graph f)) f.bound

-- a sweep over all places
abbrev pub Swept : flow.Flow → List (List Bool) → List (List Bool) → Bool → Type 0
Swept f = SweepOf (AreRowsLive (graph f)) (IsClosedAt (graph f)) f.bound
