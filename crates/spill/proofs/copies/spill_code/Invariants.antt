use Rattle.std.proofs.Common.{length}
use Rattle.spill.proofs.Copying.{Copying}
use Rattle.spill.proofs.copies.spill_code.Given as goal

abbrev pub invariant-loop-instr : goal.invariant-loop-instr
invariant-loop-instr l = Copying l.tables l.fn.code l.items.items l.made

abbrev pub decreases-loop-instr : goal.decreases-loop-instr
decreases-loop-instr l = length l.items.items
