use Rattle.std.proofs.Common.{◌≡◌, drop}
use Rattle.rv_machine.specs.Placement.{placed_at}
use Rattle.alloc_service.specs.Forward.{MarksWithin}
use Rattle.alloc_service.proofs.claims.release.Given as goal

abbrev pub invariant-loop-k : goal.invariant-loop-k
invariant-loop-k l = record {
  left : MarksWithin l.table (placed_at (drop l.k l.blocks) (drop l.k l.starts));
  same_heap : l.table.heap ≡ l.heap;
}
