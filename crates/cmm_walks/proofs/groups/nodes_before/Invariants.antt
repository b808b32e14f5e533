use Rattle.cmm_walks.proofs.Grouped.{Turning}
use Rattle.cmm_walks.proofs.groups.nodes_before.Given as goal

abbrev pub invariant-loop-node : goal.invariant-loop-node
invariant-loop-node l = Turning l.nodes l.node-index l.number l.before.items
