use Rattle.hoist.specs.Loops.{AreFlags}
use Rattle.hoist.specs.Moves.{StaysAt}
use Rattle.mach_ir.specs.NumberTables.{table_entry}
use Rattle.hoist.proofs.choosing.written_once.Given as goal

abbrev pub invariant-loop-place : goal.invariant-loop-place
invariant-loop-place l = AreFlags (StaysAt l.flags l.code (table_entry l.writes)) l.place l.kept.items
