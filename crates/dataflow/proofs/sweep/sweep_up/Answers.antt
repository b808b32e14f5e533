use Rattle.dataflow.proofs.Progress.{up_none, up_more}
use Rattle.dataflow.proofs.sweep.sweep_up.Goals as goal

pub loop-p-init : goal.loop-p-init
loop-p-init c = up_none _ _ c.requires.size c.requires.sizes

pub loop-p-preserved : goal.loop-p-preserved
loop-p-preserved c = up_more c.loop-p.p c.loop-p.invariant c.visit-grew_here.ensures.size c.visit-grew_here.ensures.visited c.either-grew.ensures
