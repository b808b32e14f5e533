use Rattle.std.proofs.Common.{◌≡◌, ℕ, drop}
use Rattle.mach_ir.specs.NumberTables.{table_entry}
use Rattle.hoist.specs.Written.{writes_counted}
use Rattle.hoist.proofs.writes.note_writes.Given as goal

abbrev pub invariant-loop-reg : goal.invariant-loop-reg
invariant-loop-reg l =
    (n : ℕ) → writes_counted n (drop l.reg-index l.regs) (table_entry l.writes n) ≡ writes_counted n l.regs (table_entry l.initial.writes n)
