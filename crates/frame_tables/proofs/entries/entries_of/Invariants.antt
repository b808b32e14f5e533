use Rattle.std.proofs.Common.{◌≡◌, ◌++◌, drop}
use Rattle.lin_laws.specs.Numbers.{trap_entries_from}
use Rattle.frame_tables.proofs.entries.entries_of.Given as goal

abbrev pub invariant-loop-number : goal.invariant-loop-number
invariant-loop-number l = l.entries.items ++ trap_entries_from l.traps l.number (drop l.number l.set) ≡ trap_entries_from l.traps 0 l.set
