use Rattle.std.proofs.Common.{◌≡◌}
use Rattle.colouring.proofs.Indexed.{IsIndexed}
use Rattle.colouring.proofs.nodes.NodeTable.new.Given as goal

pub record Indices (Table Counted : Type 0) : Type 0 where
  pub indexed : Table
  pub counted : Counted

abbrev pub invariant-loop-node : goal.invariant-loop-node
invariant-loop-node l = Indices (IsIndexed l.graph.nodes l.node-index l.indices.items) (l.index ≡ l.node-index)
