use Rattle.std.proofs.Common.{ℕ, ◌<◌}
use Rattle.std.specs.Prelude.{slice_index}
use Rattle.lin_flow.specs.Live.{ReadsOnFrom}
use Rattle.lin_flow.proofs.live.LiveWalks.is_live_after.Given as goal

abbrev pub invariant-loop-position : goal.invariant-loop-position
invariant-loop-position l =
    (k : ℕ) → k < l.position-index → ReadsOnFrom l.self l.place l.number (slice_index l.position-items k) → ⊥
