use Rattle.std.proofs.Common.{◌+◌, cond, length}
use Rattle.bs_words.specs.Contents.{contents}
use Rattle.dataflow.specs.Flow.{graph}
use Rattle.dataflow.specs.Progress.{missing}
use Rattle.dataflow.specs.Spread.{IsComing, IsSpreadFrom}
use Rattle.dataflow.proofs.Progress.{Solving}
use Rattle.dataflow.proofs.reach.reaching.Given as goal

abbrev pub invariant-loop-grew : goal.invariant-loop-grew
invariant-loop-grew l =
    Solving (IsComing (graph l.flow)) (IsSpreadFrom (graph l.flow)) (length (contents l.flow.places)) l.flow.bound l.rows.items l.set l.grew

abbrev pub decreases-loop-grew : goal.decreases-loop-grew
decreases-loop-grew l = missing l.rows.items + cond l.grew 1 0
