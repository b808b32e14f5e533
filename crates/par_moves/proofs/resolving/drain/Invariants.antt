use Rattle.par_moves.specs.Index.{HoldsPending, moves_held}
use Rattle.par_moves.specs.Moves.{Moves}
use Rattle.par_moves.specs.Resolved.{drained_at}
use Rattle.par_moves.proofs.Turns.{Draining}
use Rattle.par_moves.proofs.resolving.drain.Given as goal

abbrev pub invariant-loop-root : goal.invariant-loop-root
invariant-loop-root l = (moves : Moves) → HoldsPending l.fn.pending.readers moves → Draining l.source l.pending.readers l.made.items l.fn.made.items (drained_at l.source moves)

abbrev pub decreases-loop-root : goal.decreases-loop-root
decreases-loop-root l = moves_held l.pending.readers
