use Rattle.std.proofs.Common.{◌≡◌, length}
use Rattle.cmm_lex.specs.Scanning.{behind_string}
use Rattle.cmm_lex.proofs.enclosed.behind_string.Given as goal

-- what the rest gives is what all bytes give
abbrev pub invariant-loop-byte : goal.invariant-loop-byte
invariant-loop-byte l = behind_string l.rest ≡ behind_string l.fn.bytes

abbrev pub decreases-loop-byte : goal.decreases-loop-byte
decreases-loop-byte l = length l.rest
