use Rattle.std.proofs.Common.{length}
use Rattle.sink.proofs.Copying.{Copying}
use Rattle.sink.proofs.moves.move_code.Given as goal

abbrev pub invariant-loop-instr : goal.invariant-loop-instr
invariant-loop-instr l = Copying l.moves l.fn.code l.items.items l.made

abbrev pub decreases-loop-instr : goal.decreases-loop-instr
decreases-loop-instr l = length l.items.items
