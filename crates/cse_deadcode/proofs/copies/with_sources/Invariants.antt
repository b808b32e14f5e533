use Rattle.cse_deadcode.specs.Copies.{read_from_sources}
use Rattle.cse_deadcode.proofs.Noted.{Remaking}
use Rattle.cse_deadcode.proofs.copies.with_sources.Given as goal

abbrev pub invariant-loop-instr : goal.invariant-loop-instr
invariant-loop-instr l = Remaking read_from_sources l.fn.code l.instr-iterator.rest.items l.made.items l.times
