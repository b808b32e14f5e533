use Rattle.std.proofs.Common.{◌≡◌, ℕ, ◌+◌, ◌-◌, ◌≤◌, List, length}
use Rattle.cmm_lex.specs.Scanning.{behind_string, Fine}
use Rattle.cmm_lex.specs.Strings.{BadEscape}
use Rattle.cmm_lex.proofs.strings.bad_escape.Given as goal

-- what is said of the rest is said of all bytes
abbrev pub invariant-loop-behind : goal.invariant-loop-behind
invariant-loop-behind l =
    record {
      shorter : length l.rest ≤ length l.fn.bytes;
      same : behind_string l.rest ≡ behind_string l.fn.bytes;
      bad : (n : ℕ) → BadEscape n l.rest → BadEscape (n + (length l.fn.bytes - length l.rest)) l.fn.bytes;
      fine : (tail : List ℕ) → Fine l.rest tail → Fine l.fn.bytes tail;
    }

abbrev pub decreases-loop-behind : goal.decreases-loop-behind
decreases-loop-behind l = length l.rest
