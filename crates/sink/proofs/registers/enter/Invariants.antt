use Rattle.std.proofs.Common.{◌≡◌, drop}
use Rattle.sink.specs.Registers.{registers_entered}
use Rattle.sink.proofs.registers.enter.Given as goal

abbrev pub invariant-loop-reg : goal.invariant-loop-reg
invariant-loop-reg l = registers_entered (drop l.reg-index l.regs) l.table.items ≡ registers_entered l.regs l.initial.table.items
