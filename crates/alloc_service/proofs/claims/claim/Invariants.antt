use Rattle.std.proofs.Common.{◌≡◌, ◌≤◌, true, drop, length}
use Rattle.rv_machine.specs.Placement.{placed_at, are_apart}
use Rattle.alloc_service.proofs.Apart.{IsClaimed}
use Rattle.alloc_service.proofs.claims.claim.Given as goal

abbrev pub invariant-loop-left : goal.invariant-loop-left
invariant-loop-left l = record {
  apart : are_apart (placed_at (drop l.left l.blocks) (drop l.left l.starts)) ≡ true;
  claimed : IsClaimed l.table (placed_at (drop l.left l.blocks) (drop l.left l.starts));
  within : l.left ≤ length l.blocks;
  same_heap : l.table.heap ≡ l.heap;
}

abbrev pub decreases-loop-left : goal.decreases-loop-left
decreases-loop-left l = l.left
