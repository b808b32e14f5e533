use Rattle.std.proofs.Common.{◌≡◌, ◌≤◌, drop, length}
use Rattle.alloc_service.specs.Forward.{IsForward}
use Rattle.alloc_service.proofs.forward.forward_all.Given as goal

abbrev pub invariant-loop-left : goal.invariant-loop-left
invariant-loop-left l = record {
  forward : IsForward l.table (drop l.left l.blocks) (drop l.left l.starts);
  within : l.left ≤ length l.blocks;
  same_heap : l.table.heap ≡ l.initial.table.heap;
}

abbrev pub decreases-loop-left : goal.decreases-loop-left
decreases-loop-left l = l.left
