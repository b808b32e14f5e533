-- Arithmetic on words of 64 bits, as the RV64I and M instructions have it. A word is a number below 2 ^ 64.
-- Bitwise and, or and exclusive or are std's `bit_and`, `bit_or` and `bit_xor`.
use Rattle.std.specs.Prelude.{ℕ, ◌+◌, ◌-◌, ◌*◌, ◌/◌, ◌%◌, ◌^◌, cond, nat_lt, ℤ, pos, negsuc, ◌*ℤ◌, int_div, int_rem}
use Rattle.std.specs.Int.{w64, cast_signed, int_div_euclid}

-- ---- the signed reading

-- the word's signed reading: itself below 2 ^ 63, else 2 ^ 64 less
unfoldable pub signed_of : ℕ → ℤ
signed_of w = cast_signed w64 w

-- the word that an integer leaves in 64 bits: the one that differs from it by a multiple of 2 ^ 64
unfoldable pub word_of : ℤ → ℕ
word_of (pos n) = n % 2 ^ 64
word_of (negsuc n) = 2 ^ 64 - 1 - n % 2 ^ 64

-- ---- sums and products

unfoldable pub add_word : ℕ → ℕ → ℕ
add_word a b = (a + b) % 2 ^ 64

unfoldable pub sub_word : ℕ → ℕ → ℕ
sub_word a b = (a + (2 ^ 64 - b)) % 2 ^ 64

unfoldable pub mul_word : ℕ → ℕ → ℕ
mul_word a b = a * b % 2 ^ 64

-- the high half of the signed product: it is divided by 2 ^ 64, rounded down
unfoldable pub mulh_word : ℕ → ℕ → ℕ
mulh_word a b = word_of (int_div_euclid (signed_of a *ℤ signed_of b) (pos (2 ^ 64)))

-- ---- quotients toward zero, where b is not 0

unfoldable pub div_word : ℕ → ℕ → ℕ
div_word a b = word_of (int_div (signed_of a) (signed_of b))

-- the remainder has the sign of a
unfoldable pub rem_word : ℕ → ℕ → ℕ
rem_word a b = word_of (int_rem (signed_of a) (signed_of b))

-- ---- shifts by k, below 64

unfoldable pub shl_word : ℕ → ℕ → ℕ
shl_word a k = a * 2 ^ k % 2 ^ 64

unfoldable pub shr_word : ℕ → ℕ → ℕ
shr_word a k = a / 2 ^ k

-- the signed reading is divided by 2 ^ k, rounded down
unfoldable pub sar_word : ℕ → ℕ → ℕ
sar_word a k = word_of (int_div_euclid (signed_of a) (pos (2 ^ k)))

-- ---- sign extension

-- the integer that n means as a signed number of so many bits, where n is below 2 ^ bits: n, or 2 ^ bits less where the top bit is set
unfoldable pub signed_in : ℕ → ℕ → ℤ
signed_in bits n = cond (nat_lt n (2 ^ (bits - 1))) (pos n) (negsuc (2 ^ bits - 1 - n))

-- the lowest `bits` bits of w, read as a signed number of that many bits
unfoldable pub sext_word : ℕ → ℕ → ℕ
sext_word w bits = word_of (signed_in bits (w % 2 ^ bits))
