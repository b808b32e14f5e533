use Rattle.std.proofs.Common.{◌≡◌, ◌++◌, drop}
use Rattle.reg_rounds.proofs.copies.copy_code.Given as goal

abbrev pub invariant-loop-instr : goal.invariant-loop-instr
invariant-loop-instr l = l.copy.items ++ drop l.instr-index l.code ≡ l.code
