-- The words of a set: bit k % 64 of word k / 64 is the bit of number k.
use Rattle.std.specs.Prelude.{◌≡◌, ◌≢◌, ℕ, ◌*◌, ◌/◌, ◌%◌, ◌^◌, ◌<◌, ◌≤◌, List, length, slice_index, bit_or}
use Rattle.std.specs.Int.{bit_at}

-- the bit of number k, 0 or 1
abbrev pub bit : List ℕ → ℕ → ℕ
bit words k = bit_at (slice_index words (k / 64)) (k % 64)

-- each word has the bits of its two words
pub record Ors (words others ors : List ℕ) : Type 0 where
  pub len : length ors ≡ length words
  pub each : (i : ℕ)
      → i < length words
      → slice_index ors i ≡ bit_or (slice_index words i) (slice_index others i)

-- some word is another; both have 64 bits
pub record Changed (old new : List ℕ) : Type 0 where
  pub at : ℕ
  pub within : at < length old
  pub differs : slice_index old at ≢ slice_index new at
  pub old_fits : slice_index old at < 2 ^ 64
  pub new_fits : slice_index new at < 2 ^ 64

-- no bit from `from` on is set
abbrev pub HasNoBitFrom : List ℕ → ℕ → Type 0
HasNoBitFrom words from = (k : ℕ) → from ≤ k → bit words k ≡ 0

-- the first bit that is set, from `from` on
pub record IsNextBit (words : List ℕ) (from k : ℕ) : Type 0 where
  pub not_below : from ≤ k
  pub within : k < length words * 64
  pub is_set : bit words k ≡ 1
  pub least : (j : ℕ) → from ≤ j → j < k → bit words j ≡ 0
