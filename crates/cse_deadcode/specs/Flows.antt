-- Which numbers are used at the places of a graph, where some places only compute.
use Rattle.std.specs.Prelude.{◌≡◌, ◌↔◌, ℕ, Bool, true, false, not, ◌||◌, ◌&&◌, ◌==◌, List}
use Rattle.std.specs.List.{list_any, Contains}
use Rattle.bs_words.specs.Contents.{contents}
use Rattle.bs_bits.specs.Set.{has}
use Rattle.dataflow.specs.declared.flow.Place as place
use Rattle.dataflow.specs.declared.flow.Flow as flow
use Rattle.dataflow.specs.Flow.{Graph, graph}
use Rattle.dataflow.specs.Progress.{VisitOf, SweepOf}
use Rattle.dataflow.specs.Rows.{set_in_row}

-- Some walk from a place uses a number before it writes it. A place that only computes uses what it
-- reads where a number that it writes is used after it.
pub data UsedBefore (g : Graph) (computes : ℕ → Bool) : ℕ → ℕ → Type 0 where
  read : {p r : ℕ} → computes p ≡ false → Contains (g.reads p) r → UsedBefore g computes p r
  read_for : {p q r k : ℕ} → computes p ≡ true → Contains (g.reads p) r →
      Contains (g.writes p) k → Contains (g.next p) q → UsedBefore g computes q k →
      UsedBefore g computes p r
  on : {p q r : ℕ} → (Contains (g.writes p) r → ⊥) → Contains (g.next p) q →
      UsedBefore g computes q r → UsedBefore g computes p r
  aside : {p q r : ℕ} → Contains (g.aside p) q → UsedBefore g computes q r →
      UsedBefore g computes p r

-- the sets say exactly what is used before each place
pub record AreUsed (f : flow.Flow) (computes : ℕ → Bool) (rows : List (List Bool)) : Type 0 where
  pub exact : (p r : ℕ) → (has (set_in_row rows p) r ≡ true) ↔ UsedBefore (graph f) computes p r

-- ---- one visit

-- whether a number that is written is in the set of a next place
abbrev pub is_wanted : List ℕ → List ℕ → List (List Bool) → Bool
is_wanted next writes rows = list_any (λ k. list_any (λ q. has (set_in_row rows q) k) next) writes

-- whether r is used before a place, as far as the rows say what is used before the next ones
abbrev pub is_used_before : Bool → List ℕ → List ℕ → List ℕ → List ℕ → List (List Bool) → ℕ → Bool
is_used_before computes next past reads writes rows r =
    ((list_any (λ q. has (set_in_row rows q) r) next && not (list_any (λ k. k == r) writes))
    || list_any (λ q. has (set_in_row rows q) r) past)
    || ((not computes || is_wanted next writes rows) && list_any (λ k. k == r) reads)

abbrev pub is_used_before_place : Bool → place.Place → List (List Bool) → ℕ → Bool
is_used_before_place computes x rows r =
    is_used_before computes (contents x.next) (contents x.aside) (contents x.reads) (contents x.writes) rows
    r

-- each member is used
pub record AreRowsUsed (g : Graph) (computes : ℕ → Bool) (rows : List (List Bool)) : Type 0 where
  pub used : (p r : ℕ) → has (set_in_row rows p) r ≡ true → UsedBefore g computes p r

-- what enters place p is a member
pub record IsClosedForUse (g : Graph) (computes : ℕ → Bool) (rows : List (List Bool)) (p : ℕ) :
    Type 0 where
  pub member : (r : ℕ) →
      is_used_before (computes p) (g.next p) (g.aside p) (g.reads p) (g.writes p) rows r ≡ true →
      has (set_in_row rows p) r ≡ true

-- a visit of place p
abbrev pub VisitedForUse : flow.Flow → (ℕ → Bool) → List (List Bool) → List (List Bool) → ℕ → Bool → Type 0
VisitedForUse f computes = VisitOf (AreRowsUsed (graph f) computes) (IsClosedForUse (graph f) computes) f.bound

-- a sweep over all places
abbrev pub SweptForUse : flow.Flow → (ℕ → Bool) → List (List Bool) → List (List Bool) → Bool → Type 0
SweptForUse f computes = SweepOf (AreRowsUsed (graph f) computes) (IsClosedForUse (graph f) computes) f.bound
