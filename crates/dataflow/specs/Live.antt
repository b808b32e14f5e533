-- Sets that say exactly what is live before each place.
use Rattle.std.specs.Prelude.{◌≡◌, ℕ, Bool, true, List, length, ◌↔◌}
use Rattle.bs_words.specs.Contents.{contents}
use Rattle.bs_bits.specs.Set.{has}
use Rattle.dataflow.specs.declared.flow.Flow as flow
use Rattle.dataflow.specs.Flow.{graph, LiveBefore}
use Rattle.dataflow.specs.Rows.{set_in_row, HasSizes}

pub record IsLiveness (f : flow.Flow) (rows : List (List Bool)) : Type 0 where
  pub len : length rows ≡ length (contents f.places)
  pub sizes : HasSizes f.bound rows
  pub exact : (p r : ℕ) → (has (set_in_row rows p) r ≡ true) ↔ LiveBefore (graph f) p r
