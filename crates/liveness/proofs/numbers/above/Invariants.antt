use Rattle.std.proofs.Common.{take}
use Rattle.liveness.specs.Numbers.{IsLeastAbove}
use Rattle.liveness.proofs.numbers.above.Given as goal

abbrev pub invariant-loop-reg : goal.invariant-loop-reg
invariant-loop-reg l = IsLeastAbove l.bound (take l.reg-index l.regs) l.above
