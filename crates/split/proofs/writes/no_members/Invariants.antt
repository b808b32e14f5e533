use Rattle.std.proofs.Common.{◌≡◌, [], ℕ, length}
use Rattle.split.specs.Writes.{members_in}
use Rattle.split.proofs.writes.no_members.Given as goal

abbrev pub invariant-loop-number : goal.invariant-loop-number
invariant-loop-number l =
    record { len : length l.groups.items ≡ l._number; none : (n : ℕ) → members_in l.groups.items n ≡ [] }
