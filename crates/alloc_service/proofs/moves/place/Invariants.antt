use Rattle.std.proofs.Common.{◌≡◌, ◌++◌, drop, take, length}
use Rattle.std.specs.Vec.{vec_capacity}
use Rattle.rv_machine.specs.Placement.{placed_at}
use Rattle.alloc_service.proofs.moves.place.Given as goal

abbrev pub invariant-loop-k : goal.invariant-loop-k
invariant-loop-k l = record {
  placed : take l.k l.blocks.items ++ placed_at (drop l.k l.blocks.items) (drop l.k l.starts) ≡ placed_at l.initial.blocks.items l.starts;
  lengths : length l.blocks.items ≡ length l.starts;
  capacity : vec_capacity l.blocks ≡ vec_capacity l.initial.blocks;
}
