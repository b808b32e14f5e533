use Rattle.cse_deadcode.specs.Repeats.{without_repeat}
use Rattle.cse_deadcode.proofs.Noted.{Remaking}
use Rattle.cse_deadcode.proofs.repeats.without_repeats.Given as goal

abbrev pub invariant-loop-instr : goal.invariant-loop-instr
invariant-loop-instr l = Remaking without_repeat l.fn.code l.instr-iterator.rest.items l.made.items l.times
