use Rattle.std.proofs.Common.{◌≡◌, drop, length}
use Rattle.colouring.specs.Chosen.{fixed, greedily_coloured}
use Rattle.colouring.specs.Tables.{places_by, referred}
use Rattle.colouring.proofs.choosing.colour.Given as goal

-- the places so far go on to those of all nodes
pub record Goes (On Len : Type 0) : Type 0 where
  pub on : On
  pub len : Len

abbrev pub invariant-loop-node : goal.invariant-loop-node
invariant-loop-node l = Goes
    (greedily_coloured l.graph (places_by l.places.items) (referred (drop l.node-index l.node-items)) ≡
    greedily_coloured l.graph (fixed l.graph) (referred l.node-items))
    (length l.places.items ≡ length l.table.indices.items)
