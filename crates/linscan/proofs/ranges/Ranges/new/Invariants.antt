use Rattle.std.proofs.Common.{◌≡◌, ℕ, None, length}
use Rattle.linscan.specs.Seen.{range_at}
use Rattle.linscan.proofs.ranges.Ranges.new.Given as goal

abbrev pub invariant-loop-number : goal.invariant-loop-number
invariant-loop-number l =
    record { len : length l.items.items ≡ l._number; none : (n : ℕ) → range_at l.items.items n ≡ None }
