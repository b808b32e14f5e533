use Rattle.std.proofs.Common.{length}
use Rattle.cse_deadcode.proofs.Tables.{Dropping}
use Rattle.cse_deadcode.proofs.dropping.drop_code.Given as goal

abbrev pub invariant-loop-instr : goal.invariant-loop-instr
invariant-loop-instr l = Dropping l.rows.rows.items l.fn.code l.items.items l.left

abbrev pub decreases-loop-instr : goal.decreases-loop-instr
decreases-loop-instr l = length l.items.items
