-- Graphs of places, walks over them, and what is live.
use Rattle.std.specs.Prelude.{◌≡◌, ℕ, zero, suc, ◌<◌, ◌⊎◌, List, [], map, slice_index_or, length}
use Rattle.std.specs.List.{All, Contains}
use Rattle.bs_words.specs.Contents.{contents}
use Rattle.dataflow.specs.declared.flow.Place as place
use Rattle.dataflow.specs.declared.flow.Flow as flow

-- What a walk sees of a graph, by the numbers of places.
pub record Graph : Type 0 where
  pub next : ℕ → List ℕ
  pub aside : ℕ → List ℕ
  pub reads : ℕ → List ℕ
  pub writes : ℕ → List ℕ

-- Some walk of n steps from p reads r at its end, and no place before writes it on the way: a place
-- reads before it writes, and a step aside passes the place's own write by.
abbrev pub ReadsIn : Graph → ℕ → ℕ → ℕ → Type 0
ReadsIn g r zero p = Contains (g.reads p) r
ReadsIn g r (suc n) p =
    ((Contains (g.writes p) r → ⊥) × ((q : ℕ) × Contains (g.next p) q × ReadsIn g r n q)) ⊎
    ((q : ℕ) × Contains (g.aside p) q × ReadsIn g r n q)

-- some walk from p reads r before writing it
abbrev pub LiveBefore : Graph → ℕ → ℕ → Type 0
LiveBefore g p r = (n : ℕ) × ReadsIn g r n p

-- the graph of the tables; past the last place they are empty
abbrev pub graph : flow.Flow → Graph
graph f = record {
  next = λ p. slice_index_or (map (λ x. contents x.next) (contents f.places)) p [];
  aside = λ p. slice_index_or (map (λ x. contents x.aside) (contents f.places)) p [];
  reads = λ p. slice_index_or (map (λ x. contents x.reads) (contents f.places)) p [];
  writes = λ p. slice_index_or (map (λ x. contents x.writes) (contents f.places)) p [];
}

-- a place of a graph of `count` places and numbers below `bound`
pub record IsPlace (count bound : ℕ) (x : place.Place) : Type 0 where
  pub next : All (λ q. q < count) (contents x.next)
  pub aside : All (λ q. q < count) (contents x.aside)
  pub reads : All (λ r. r < bound) (contents x.reads)
  pub writes : All (λ r. r < bound) (contents x.writes)

-- a place that leads nowhere, and reads and writes nothing
pub record IsBare (x : place.Place) : Type 0 where
  pub next : contents x.next ≡ []
  pub aside : contents x.aside ≡ []
  pub reads : contents x.reads ≡ []
  pub writes : contents x.writes ≡ []

-- every place that is named exists, and every number is below the bound
abbrev pub IsFlowFormed : flow.Flow → Type 0
IsFlowFormed f = All (IsPlace (length (contents f.places)) f.bound) (contents f.places)
