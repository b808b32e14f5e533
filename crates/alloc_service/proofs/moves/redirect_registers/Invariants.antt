use Rattle.std.proofs.Common.{◌≡◌, drop, slice_index}
use Rattle.rv_machine.specs.Frames.{registers_named}
use Rattle.alloc_service.specs.Forward.{forward, redirected_registers_now}
use Rattle.alloc_service.proofs.moves.redirect_registers.Given as goal

abbrev pub invariant-loop-entry : goal.invariant-loop-entry
invariant-loop-entry l = record {
  redirected : redirected_registers_now (forward l.table) l.registers (registers_named (drop l.entry-index l.entries))
      ≡ redirected_registers_now (forward l.table) l.initial.registers (registers_named l.entries);
  zero : slice_index l.registers 0 ≡ slice_index l.initial.registers 0;
}
