-- What the fields of a `Bits` mean.
use Rattle.std.specs.Prelude.{◌≡◌, ℕ, ◌+◌, ◌/◌, ◌^◌, ◌<◌, ◌≤◌, Bool, ◌==◌, List, map, length}
use Rattle.std.specs.List.{range_with_len}
use Rattle.bs_bits.specs.Words.{bit}

-- for each number below the size, whether its bit is set
unfoldable pub set_of_words : ℕ → List ℕ → List Bool
set_of_words size words = map (λ k. bit words k == 1) (range_with_len 0 size)

-- as many words as the size needs, and no bit from the size on
pub record IsBits (size : ℕ) (words : List ℕ) : Type 0 where
  pub small : size < 2 ^ 32
  pub len : length words ≡ (size + 63) / 64
  pub rest : (k : ℕ) → size ≤ k → bit words k ≡ 0
