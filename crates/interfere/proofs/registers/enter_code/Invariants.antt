use Rattle.std.proofs.Common.{take}
use Rattle.mach_ir.specs.Walks.{InCode}
use Rattle.interfere.specs.Registers.{Enters}
use Rattle.interfere.proofs.registers.enter_code.Given as goal

abbrev pub invariant-loop-instr : goal.invariant-loop-instr
invariant-loop-instr l = Enters l.initial.table.items l.table.items (λ r. InCode r (take l.instr-index l.code))
