use Rattle.std.proofs.Common.{◌≡◌, ℕ, [], length}
use Rattle.interfere.specs.Partners.{partners_in}
use Rattle.interfere.proofs.partners.no_partners.Given as goal

abbrev pub invariant-loop-number : goal.invariant-loop-number
invariant-loop-number l =
    record { len : length l.table.items ≡ l._number; none : (n : ℕ) → partners_in l.table.items n ≡ [] }
