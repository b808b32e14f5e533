-- Numbers that stop at the greatest of 32 bits.
use Rattle.std.specs.Prelude.{ℕ, min}

abbrev pub capped : ℕ → ℕ
capped n = min n 4294967295
