use Rattle.std.proofs.Common.{take}
use Rattle.std.specs.List.{Contains}
use Rattle.interfere.specs.Registers.{Enters}
use Rattle.interfere.proofs.registers.enter.Given as goal

abbrev pub invariant-loop-reg : goal.invariant-loop-reg
invariant-loop-reg l = Enters l.initial.table.items l.table.items (Contains (take l.reg-index l.regs))
