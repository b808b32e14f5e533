use Rattle.std.proofs.Common.{◌≡◌, ℕ, None, length}
use Rattle.std.specs.Prelude.{slice_index_or}
use Rattle.interfere.proofs.registers.no_registers.Given as goal

abbrev pub invariant-loop-number : goal.invariant-loop-number
invariant-loop-number l =
    record { len : length l.table.items ≡ l._number; none : (n : ℕ) → slice_index_or l.table.items n None ≡ None }
