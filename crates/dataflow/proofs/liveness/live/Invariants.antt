use Rattle.std.proofs.Common.{◌+◌, cond, length}
use Rattle.bs_words.specs.Contents.{contents}
use Rattle.dataflow.specs.Flow.{graph}
use Rattle.dataflow.specs.Progress.{missing}
use Rattle.dataflow.specs.Sweep.{AreRowsLive, IsClosedAt}
use Rattle.dataflow.proofs.Progress.{Solving}
use Rattle.dataflow.proofs.liveness.live.Given as goal

abbrev pub invariant-loop-grew : goal.invariant-loop-grew
invariant-loop-grew l =
    Solving (AreRowsLive (graph l.flow)) (IsClosedAt (graph l.flow)) (length (contents l.flow.places)) l.flow.bound l.rows.items l.set l.grew

abbrev pub decreases-loop-grew : goal.decreases-loop-grew
decreases-loop-grew l = missing l.rows.items + cond l.grew 1 0
