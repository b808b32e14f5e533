use Rattle.std.proofs.Common.{◌≡◌, drop}
use Rattle.rv_machine.specs.Frames.{names_register}
use Rattle.alloc_service.proofs.stack.names_register.Given as goal

abbrev pub invariant-loop-entry : goal.invariant-loop-entry
invariant-loop-entry l = names_register l.entries ≡ names_register (drop l.entry-index l.entries)
