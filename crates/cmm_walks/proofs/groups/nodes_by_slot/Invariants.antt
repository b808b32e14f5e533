use Rattle.std.proofs.Common.{suc}
use Rattle.cmm_walks.proofs.Grouped.{Sorting}
use Rattle.cmm_walks.proofs.groups.nodes_by_slot.Given as goal

abbrev pub invariant-loop-node : goal.invariant-loop-node
invariant-loop-node l = Sorting l.nodes (suc l.greatest) l.node-index l.number l.mentions.items
