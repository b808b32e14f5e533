use Rattle.std.proofs.Common.{◌-◌}
use Rattle.cmm_walks.specs.Labels.{weight}
use Rattle.cmm_walks.proofs.Spreads.{Settling}
use Rattle.cmm_walks.proofs.labels.NodeLabels.settle.Given as goal

abbrev pub invariant-loop-self : goal.invariant-loop-self
invariant-loop-self l = Settling l.nodes l.slot l.initial.self l.self

abbrev pub decreases-loop-self : goal.decreases-loop-self
decreases-loop-self l = weight l.self - l.self.done
