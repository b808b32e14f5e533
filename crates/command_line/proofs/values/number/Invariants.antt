use Rattle.std.proofs.Common.{◌≡◌, ◌≤◌, All, take}
use Rattle.command_line.specs.Values.{decimal_number}
use Rattle.command_line.proofs.values.number.Given as goal

abbrev pub invariant-loop-digit : goal.invariant-loop-digit
invariant-loop-digit l =
    (l.number ≡ decimal_number (take l.digit-index l.digits))
    × All (λ b. (48 ≤ b) × (b ≤ 57)) (take l.digit-index l.digits)
    × (l.number ≤ l.limit)
