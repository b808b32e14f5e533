use Rattle.dataflow.specs.Flow.{graph}
use Rattle.dataflow.specs.Sweep.{AreRowsLive, IsClosedAt}
use Rattle.dataflow.proofs.Progress.{SweepingDown}
use Rattle.dataflow.proofs.sweep.sweep.Given as goal

abbrev pub invariant-loop-p : goal.invariant-loop-p
invariant-loop-p l =
    SweepingDown (AreRowsLive (graph l.flow)) (IsClosedAt (graph l.flow)) l.flow.bound l.initial.rows.items l.rows.items l.set l.p l.grew

abbrev pub decreases-loop-p : goal.decreases-loop-p
decreases-loop-p l = l.p
