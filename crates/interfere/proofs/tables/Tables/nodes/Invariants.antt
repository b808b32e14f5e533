use Rattle.interfere.specs.Tables.{AreNodesBelow}
use Rattle.interfere.proofs.tables.Tables.nodes.Given as goal

abbrev pub invariant-loop-number : goal.invariant-loop-number
invariant-loop-number l = AreNodesBelow l.self l.number l.nodes.items
