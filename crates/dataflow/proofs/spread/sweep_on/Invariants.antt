use Rattle.dataflow.specs.Flow.{graph}
use Rattle.dataflow.specs.Spread.{IsComing, IsSpreadFrom}
use Rattle.dataflow.proofs.Progress.{SweepingUp}
use Rattle.dataflow.proofs.spread.sweep_on.Given as goal

abbrev pub invariant-loop-p : goal.invariant-loop-p
invariant-loop-p l =
    SweepingUp (IsComing (graph l.flow)) (IsSpreadFrom (graph l.flow)) l.flow.bound l.initial.rows.items l.rows.items l.set l.p l.grew
