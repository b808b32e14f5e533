use Rattle.mach_ir.specs.NumberTables.{table_entry}
use Rattle.hoist.proofs.Reaching.{EndsBefore}
use Rattle.hoist.proofs.loops.last_exits.Given as goal

abbrev pub invariant-loop-place : goal.invariant-loop-place
invariant-loop-place l = EndsBefore l.code l.place (table_entry l.ends)
