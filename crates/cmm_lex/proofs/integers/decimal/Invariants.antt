use Rattle.std.proofs.Common.{◌≡◌, ◌≤◌, ◌-◌, ◌^◌, length}
use Rattle.cmm_lex.specs.Integers.{number_after, decimal_digits}
use Rattle.cmm_lex.proofs.integers.decimal.Given as goal

-- the number so far goes on to the whole number
abbrev pub invariant-loop-digit : goal.invariant-loop-digit
invariant-loop-digit l =
    record {
      same : number_after 10 l.number (decimal_digits l.rest) ≡ number_after 10 0 (decimal_digits l.fn.text);
      fits : l.number ≤ 2 ^ 64 - 1;
    }

abbrev pub decreases-loop-digit : goal.decreases-loop-digit
decreases-loop-digit l = length l.rest
