use Rattle.std.proofs.Common.{◌≡◌, drop}
use Rattle.rv_machine.specs.Placement.{placed_at, is_in_heap}
use Rattle.std.specs.List.{list_all}
use Rattle.alloc_service.proofs.claims.are_in_heap.Given as goal

abbrev pub invariant-loop-k : goal.invariant-loop-k
invariant-loop-k l =
    list_all (is_in_heap l.heap) (placed_at l.blocks l.starts)
    ≡ list_all (is_in_heap l.heap) (placed_at (drop l.k l.blocks) (drop l.k l.starts))
