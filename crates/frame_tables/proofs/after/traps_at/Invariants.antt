use Rattle.std.proofs.Common.{ℕ, ◌<◌}
use Rattle.std.specs.Prelude.{slice_index}
use Rattle.frame_tables.specs.Points.{IsChosenPosition}
use Rattle.frame_tables.proofs.after.traps_at.Given as goal

abbrev pub invariant-loop-number : goal.invariant-loop-number
invariant-loop-number l = (k : ℕ) → k < l.number-index → IsChosenPosition l.search l.choice (slice_index l.number-items k) → ⊥
