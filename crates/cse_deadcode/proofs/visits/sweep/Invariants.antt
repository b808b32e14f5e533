use Rattle.dataflow.specs.Flow.{graph}
use Rattle.dataflow.proofs.Progress.{SweepingDown}
use Rattle.cse_deadcode.specs.Flows.{AreRowsUsed, IsClosedForUse}
use Rattle.cse_deadcode.specs.Uses.{goes_at}
use Rattle.cse_deadcode.proofs.visits.sweep.Given as goal

abbrev pub invariant-loop-p : goal.invariant-loop-p
invariant-loop-p l =
    SweepingDown (AreRowsUsed (graph l.flow) (goes_at l.code)) (IsClosedForUse (graph l.flow) (goes_at l.code)) l.flow.bound l.initial.rows.items l.rows.items l.set l.p l.grew

abbrev pub decreases-loop-p : goal.decreases-loop-p
decreases-loop-p l = l.p
