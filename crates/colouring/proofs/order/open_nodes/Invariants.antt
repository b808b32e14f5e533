use Rattle.std.proofs.Common.{◌≡◌, ◌++◌, drop}
use Rattle.std.specs.List.{filter}
use Rattle.colouring.specs.Tables.{is_uncoloured, ranked_nodes, AreRanked, places_by}
use Rattle.colouring.proofs.order.open_nodes.Given as goal

pub record Goes (Nodes Ranked : Type 0) : Type 0 where
  pub nodes : Nodes
  pub ranked : Ranked

abbrev pub invariant-loop-node : goal.invariant-loop-node
invariant-loop-node l = Goes
    (ranked_nodes l.ranked.items ++ filter is_uncoloured (drop l.node-index l.node-items) ≡ filter is_uncoloured l.node-items)
    (AreRanked (places_by l.places) l.fresh l.ranked.items)
