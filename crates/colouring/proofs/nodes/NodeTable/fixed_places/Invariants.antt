use Rattle.std.proofs.Common.{◌≡◌, map, take}
use Rattle.colouring.specs.Chosen.{location_of_node}
use Rattle.colouring.specs.Tables.{node_by}
use Rattle.colouring.proofs.nodes.NodeTable.fixed_places.Given as goal

abbrev pub invariant-loop-index : goal.invariant-loop-index
invariant-loop-index l =
    l.places.items ≡ map (λ o. location_of_node (node_by l.graph.nodes o)) (take l.index-index l.self.indices.items)
