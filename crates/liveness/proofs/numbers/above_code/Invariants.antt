use Rattle.std.proofs.Common.{take}
use Rattle.liveness.specs.Numbers.{IsAboveCode}
use Rattle.liveness.proofs.numbers.above_code.Given as goal

abbrev pub invariant-loop-instr : goal.invariant-loop-instr
invariant-loop-instr l = IsAboveCode l.bound (take l.instr-index l.code) l.above_all
