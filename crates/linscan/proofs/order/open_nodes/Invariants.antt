use Rattle.std.proofs.Common.{take}
use Rattle.linscan.specs.Order.{AreOpenNodes}
use Rattle.linscan.proofs.order.open_nodes.Given as goal

abbrev pub invariant-loop-node : goal.invariant-loop-node
invariant-loop-node l = AreOpenNodes l.ranges (take l.node-index l.graph.nodes) l.opens.items
