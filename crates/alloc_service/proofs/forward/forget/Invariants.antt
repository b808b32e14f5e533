use Rattle.std.proofs.Common.{◌≡◌, ℕ, false, drop}
use Rattle.rv_machine.specs.Relocation.{is_start}
use Rattle.rv_machine.specs.Marks.{mark_at}
use Rattle.alloc_service.proofs.forward.forget.Given as goal

abbrev pub invariant-loop-block : goal.invariant-loop-block
invariant-loop-block l = record {
  left : (w : ℕ) → is_start (drop l.block-index l.blocks) w ≡ false → mark_at l.table w ≡ 0;
  same_heap : l.table.heap ≡ l.initial.table.heap;
}
