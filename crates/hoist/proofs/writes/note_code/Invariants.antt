use Rattle.std.proofs.Common.{◌≡◌, ℕ, drop}
use Rattle.mach_ir.specs.NumberTables.{table_entry}
use Rattle.hoist.specs.Written.{noted_in}
use Rattle.hoist.proofs.writes.note_code.Given as goal

abbrev pub invariant-loop-instr : goal.invariant-loop-instr
invariant-loop-instr l =
    (n : ℕ) → noted_in n (drop l.instr-index l.code) (table_entry l.writes n) ≡ noted_in n l.code (table_entry l.initial.writes n)
