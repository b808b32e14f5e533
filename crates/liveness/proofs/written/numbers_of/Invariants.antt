use Rattle.std.proofs.Common.{◌≡◌, take}
use Rattle.mach_laws.specs.Graph.{numbers_of_registers}
use Rattle.liveness.proofs.written.numbers_of.Given as goal

abbrev pub invariant-loop-reg : goal.invariant-loop-reg
invariant-loop-reg l = l.found.items ≡ numbers_of_registers (take l.reg-index l.regs)
