use Rattle.std.proofs.Common.{suc, take}
use Rattle.std.specs.List.{All}
use Rattle.walk_tables.specs.Table.{slot_below}
use Rattle.walk_tables.specs.declared.node.Node as node
use Rattle.cmm_walks.proofs.first.greatest_slot.Given as goal

abbrev pub invariant-loop-node : goal.invariant-loop-node
invariant-loop-node l = All (λ (n : node.Node). slot_below (suc l.greatest) n.step) (take l.node-index l.nodes)
