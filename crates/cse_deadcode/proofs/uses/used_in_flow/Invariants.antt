use Rattle.std.proofs.Common.{◌+◌, cond, length}
use Rattle.bs_words.specs.Contents.{contents}
use Rattle.dataflow.specs.Flow.{graph}
use Rattle.dataflow.specs.Progress.{missing}
use Rattle.dataflow.proofs.Progress.{Solving}
use Rattle.cse_deadcode.specs.Flows.{AreRowsUsed, IsClosedForUse}
use Rattle.cse_deadcode.specs.Uses.{goes_at}
use Rattle.cse_deadcode.proofs.uses.used_in_flow.Given as goal

abbrev pub invariant-loop-grew : goal.invariant-loop-grew
invariant-loop-grew l =
    Solving (AreRowsUsed (graph l.flow) (goes_at l.code)) (IsClosedForUse (graph l.flow) (goes_at l.code)) (length (contents l.flow.places)) l.flow.bound l.rows.items l.set l.grew

abbrev pub decreases-loop-grew : goal.decreases-loop-grew
decreases-loop-grew l = missing l.rows.items + cond l.grew 1 0
