use Rattle.dataflow.specs.Flow.{graph}
use Rattle.dataflow.specs.Sweep.{AreRowsLive, IsClosedAt}
use Rattle.dataflow.proofs.Progress.{SweepingUp}
use Rattle.dataflow.proofs.sweep.sweep_up.Given as goal

abbrev pub invariant-loop-p : goal.invariant-loop-p
invariant-loop-p l =
    SweepingUp (AreRowsLive (graph l.flow)) (IsClosedAt (graph l.flow)) l.flow.bound l.initial.rows.items l.rows.items l.set l.p l.grew
