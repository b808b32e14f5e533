use Rattle.std.proofs.Common.{◌≡◌, ◌≤◌, ◌-◌, ◌^◌, length}
use Rattle.cmm_lex.specs.Integers.{number_after}
use Rattle.cmm_lex.proofs.integers.number.Given as goal

-- the number so far goes on to the whole number
abbrev pub invariant-loop-digit : goal.invariant-loop-digit
invariant-loop-digit l =
    record {
      same : number_after l.base l.number l.rest ≡ number_after l.base 0 l.fn.digits;
      fits : l.number ≤ 2 ^ 64 - 1;
    }

abbrev pub decreases-loop-digit : goal.decreases-loop-digit
decreases-loop-digit l = length l.rest
