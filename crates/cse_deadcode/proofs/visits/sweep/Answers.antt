use Rattle.dataflow.proofs.Progress.{down_more}
use Rattle.cse_deadcode.proofs.visits.sweep.Goals as goal

pub loop-p-preserved : goal.loop-p-preserved
loop-p-preserved c = down_more c.loop-p.p c.loop-p-test.true c.if-grew.false c.loop-p.invariant c.visit-grew_here.ensures.size c.visit-grew_here.ensures.visited
