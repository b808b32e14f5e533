-- What of the machine stands for a memory of values.
use Rattle.std.specs.Prelude.{◌≡◌, ℕ, ◌+◌, ◌-◌, ◌*◌, ◌%◌, ◌<◌, ◌≤◌, ◌≢◌, ◌⊎◌, List, [], ◌∷◌, length, Option, Some}
use Rattle.bs_words.specs.declared.values.Value.{Value}
use Rattle.image_form.specs.Tables.{Tables}
use Rattle.rv_machine.specs.Hart.{Placed}
use Rattle.rv_machine.specs.Memory.{Region, memory_word}
use Rattle.rv_machine.specs.Moving.{is_scanned}
use Rattle.bs_words.specs.Fits.{data_start}
use Rattle.moving_laws.specs.Words.{IsReadable, held_word}
use Rattle.moving_laws.specs.Values.{start_of, cells_of_block, value_word, IsVal, IsStill, IsKnown, FitsCell}

-- The blocks of a run, by serial. A header or a cell that has not been written yet has nothing.
pub record Blocks : Type 0 where
  pub count : ℕ
  -- the number of cells of each
  pub size : ℕ → ℕ
  pub header : ℕ → Option ℕ
  pub cell : ℕ → ℕ → Option Value

-- the memory has these blocks' words at their places
pub record BlocksStand (image : Tables) (placed : List Placed) (m : List Region)
    (blocks : Blocks) : Type 0 where
  pub count : blocks.count ≡ length placed
  pub sizes : (k : ℕ) → k < length placed → cells_of_block placed k ≡ blocks.size k
  pub header : (k w : ℕ) → k < length placed → blocks.header k ≡ Some w →
      memory_word m (start_of placed k - 8) ≡ w
  pub cell : (k j : ℕ) (v : Value) → k < length placed → j < cells_of_block placed k →
      blocks.cell k j ≡ Some v → memory_word m (start_of placed k + 8 * j) ≡ value_word image placed v
  pub known : (k j : ℕ) (v : Value) → k < length placed → blocks.cell k j ≡ Some v →
      IsKnown image (length placed) v

-- what a frame point asks of the blocks: each header is known, and the cells that are known fit it
pub record AreSettled (image : Tables) (count : ℕ) (blocks : Blocks) : Type 0 where
  pub header : (k : ℕ) → k < count → (w : ℕ) × (blocks.header k ≡ Some w)
  pub cell : (k j w : ℕ) (v : Value) → k < count → blocks.header k ≡ Some w →
      blocks.cell k j ≡ Some v → FitsCell image count (is_scanned w) v

-- every word of the blocks can be read and written
pub record AreReadable (m : List Region) (placed : List Placed) : Type 0 where
  pub each : (k x : ℕ) → k < length placed → x % 8 ≡ 0 → start_of placed k - 8 ≤ x →
      x < start_of placed k + 8 * cells_of_block placed k → IsReadable m x

-- an address at which the program keeps words of its own: no word of a block, nor the limit word
pub record IsOutside (x : ℕ) : Type 0 where
  pub off : (x < 0x30000000) ⊎ (0x38010000 ≤ x)
  pub no_limit : x ≢ 0x20000000

abbrev pub AmongNumbers : ℕ → List ℕ → Type 0
AmongNumbers x [] = ⊥
AmongNumbers x (a ∷ rest) = (x ≡ a) ⊎ AmongNumbers x rest

-- the static cells, by address, hold these values: a root cell what fits val, another one no
-- pointer
pub record StaticsStand (image : Tables) (placed : List Placed) (m : List Region) (roots : List ℕ)
    (static : ℕ → Option Value) : Type 0 where
  pub cell : (x : ℕ) (v : Value) → static x ≡ Some v → held_word m x ≡ value_word image placed v
  pub kind : (x : ℕ) (v : Value) → static x ≡ Some v →
      (IsVal image (length placed) v × AmongNumbers x roots) ⊎ (IsStill v × (AmongNumbers x roots → ⊥))
  pub known : (x : ℕ) (v : Value) → static x ≡ Some v → IsKnown image (length placed) v
  -- some byte of the cell lies in the data; the last one may be cut off
  pub place : (x : ℕ) (v : Value) → static x ≡ Some v → (x % 8 ≡ 0) × (data_start ≤ x)
      × (x < data_start + length image.bytes)
