-- Walks that bring a number to a place.
use Rattle.std.specs.Prelude.{◌≡◌, ℕ, zero, suc, ◌⊎◌, Bool, true, List, length, ◌↔◌}
use Rattle.std.specs.List.{Contains}
use Rattle.bs_words.specs.Contents.{contents}
use Rattle.bs_bits.specs.Set.{has}
use Rattle.dataflow.specs.declared.flow.Flow as flow
use Rattle.dataflow.specs.Flow.{Graph, graph}
use Rattle.dataflow.specs.Rows.{set_in_row, HasSizes}

-- Some walk of at most n steps brings r to p: the last step leaves a place that reads r, or one that
-- does not write r and to which r came; or it goes aside from one to which r came.
abbrev pub ComesIn : Graph → ℕ → ℕ → ℕ → Type 0
ComesIn g r zero p = ⊥
ComesIn g r (suc n) p =
    ((o : ℕ) × Contains (g.next o) p ×
    (Contains (g.reads o) r ⊎ ((Contains (g.writes o) r → ⊥) × ComesIn g r n o))) ⊎
    ((o : ℕ) × Contains (g.aside o) p × ComesIn g r n o)

-- some walk brings r to p
abbrev pub ComesTo : Graph → ℕ → ℕ → Type 0
ComesTo g p r = (n : ℕ) × ComesIn g r n p

-- the sets say exactly what comes to each place
pub record IsReaching (f : flow.Flow) (rows : List (List Bool)) : Type 0 where
  pub len : length rows ≡ length (contents f.places)
  pub sizes : HasSizes f.bound rows
  pub exact : (p r : ℕ) → (has (set_in_row rows p) r ≡ true) ↔ ComesTo (graph f) p r
