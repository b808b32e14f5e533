use Rattle.std.proofs.Common.{◌≡◌, length}
use Rattle.file_compile.proofs.files.tokens_of.Given as goal

-- one number for each that was passed
abbrev pub invariant-loop-function : goal.invariant-loop-function
invariant-loop-function l = length l.tokens.items ≡ l.function-index
