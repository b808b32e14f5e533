use Rattle.std.proofs.Common.{take}
use Rattle.std.specs.List.{All}
use Rattle.cmm_walks.specs.First.{place_within}
use Rattle.walk_tables.specs.declared.node.Node as node
use Rattle.cmm_walks.proofs.first.greatest_place.Given as goal

abbrev pub invariant-loop-node : goal.invariant-loop-node
invariant-loop-node l = All (λ (n : node.Node). place_within l.greatest n.step) (take l.node-index l.nodes)
