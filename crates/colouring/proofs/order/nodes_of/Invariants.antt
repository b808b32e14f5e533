use Rattle.std.proofs.Common.{◌≡◌, ◌++◌, drop}
use Rattle.colouring.specs.Tables.{referred, ranked_nodes}
use Rattle.colouring.proofs.order.nodes_of.Given as goal

abbrev pub invariant-loop-one : goal.invariant-loop-one
invariant-loop-one l = referred l.nodes.items ++ ranked_nodes (drop l.one-index l.ranked) ≡ ranked_nodes l.ranked
