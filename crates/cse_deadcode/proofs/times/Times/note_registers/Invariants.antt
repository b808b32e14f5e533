use Rattle.std.proofs.Common.{take}
use Rattle.cse_deadcode.proofs.Noted.{Notes}
use Rattle.cse_deadcode.proofs.times.Times.note_registers.Given as goal

abbrev pub invariant-loop-reg : goal.invariant-loop-reg
invariant-loop-reg l = Notes l.initial.self l.self l.time (take l.reg-index l.regs)
