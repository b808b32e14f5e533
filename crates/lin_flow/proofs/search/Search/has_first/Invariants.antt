use Rattle.std.proofs.Common.{ℕ, ◌<◌}
use Rattle.std.specs.Prelude.{slice_index}
use Rattle.lin_flow.specs.Search.{IsThere}
use Rattle.lin_flow.proofs.search.Search.has_first.Given as goal

abbrev pub invariant-loop-number : goal.invariant-loop-number
invariant-loop-number l =
    (k : ℕ) → k < l.number-index → slice_index l.number-items k < l.first →
    IsThere l.self l.place (slice_index l.number-items k) → ⊥
