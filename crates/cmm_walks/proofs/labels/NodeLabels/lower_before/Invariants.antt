use Rattle.std.proofs.Common.{take}
use Rattle.cmm_walks.specs.Groups.{members}
use Rattle.cmm_walks.proofs.Spreads.{Passing}
use Rattle.cmm_walks.proofs.labels.NodeLabels.lower_before.Given as goal

abbrev pub invariant-loop-q : goal.invariant-loop-q
invariant-loop-q l = Passing l.nodes l.slot l.place l.initial.self l.self (take l.q-index (members l.before l.place))
