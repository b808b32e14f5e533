use Rattle.std.proofs.Common.{◌≡◌, ◌++◌, length}
use Rattle.cmm_lex.specs.Strings.{unescaped, string_bytes}
use Rattle.cmm_lex.proofs.strings.string_value.Given as goal

-- the bytes so far and those of the rest are all
abbrev pub invariant-loop-byte : goal.invariant-loop-byte
invariant-loop-byte l = l.bytes.items ++ unescaped l.rest ≡ string_bytes l.fn.text

abbrev pub decreases-loop-byte : goal.decreases-loop-byte
decreases-loop-byte l = length l.rest
