-- Values as words under a placement of the blocks.
use Rattle.std.specs.Prelude.{◌≡◌, ℕ, zero, suc, ◌+◌, ◌*◌, ◌%◌, ◌^◌, ◌<◌, ◌≤◌, ◌⊎◌, Bool, true, false, List, [], ◌∷◌, length}
use Rattle.bs_words.specs.Word.{add_word}
use Rattle.bs_words.specs.declared.values.Value.{Value}
use Rattle.bs_words.specs.declared.values.Value.TheVariants.{Word, Block, Function}
use Rattle.image_form.specs.Image.{AreTables}
use Rattle.image_form.specs.Tables.{Tables, Func}
use Rattle.rv_machine.specs.Hart.{Placed}
use Rattle.rv_machine.specs.Memory.{code_start}
use Rattle.bs_words.specs.Fits.{data_start}

-- A placement is the list of the blocks by serial, each with its place.

-- the start of a block
abbrev pub start_of : List Placed → ℕ → ℕ
start_of [] k = 0
start_of (b ∷ bs) zero = b.start
start_of (b ∷ bs) (suc k) = start_of bs k

-- its number of cells
abbrev pub cells_of_block : List Placed → ℕ → ℕ
cells_of_block [] k = 0
cells_of_block (b ∷ bs) zero = b.words
cells_of_block (b ∷ bs) (suc k) = cells_of_block bs k

-- the address of a function
abbrev pub function_at : List Func → ℕ → ℕ
function_at [] k = code_start
function_at (f ∷ fs) zero = code_start + f.offset
function_at (f ∷ fs) (suc k) = function_at fs k

-- the word that stands for a value
abbrev pub value_word : Tables → List Placed → Value → ℕ
value_word image placed (Word w) = w
value_word image placed (Block k offset) = add_word (start_of placed k) offset
value_word image placed (Function f) = function_at image.funcs f

-- the blocks and functions of the value are there, among so many blocks, and an offset is a word
abbrev pub IsKnown : Tables → ℕ → Value → Type 0
IsKnown image count (Word w) = Unit {0}
IsKnown image count (Block k offset) = (k < count) × (offset < 2 ^ 64)
IsKnown image count (Function f) = f < length image.funcs

-- a value that fits val, among so many blocks
abbrev pub IsVal : Tables → ℕ → Value → Type 0
IsVal image count (Word w) =
    (w % 2 ≡ 1) ⊎ ((data_start ≤ w) × (w ≤ data_start + length image.bytes))
IsVal image count (Block k offset) = (offset ≡ 0) × (k < count)
IsVal image count (Function f) = f < length image.funcs

-- a value that is no pointer into a block
abbrev pub IsStill : Value → Type 0
IsStill (Word w) = Unit {0}
IsStill (Block k offset) = ⊥
IsStill (Function f) = Unit {0}

-- a cell of a block that is scanned fits val, one of another is no pointer
abbrev pub FitsCell : Tables → ℕ → Bool → Value → Type 0
FitsCell image count true v = IsVal image count v
FitsCell image count false v = IsStill v

-- the image keeps its rules, and each function has an instruction
pub record HasFunctions (image : Tables) : Type 0 where
  pub tables : AreTables image
  pub inside : (f : ℕ) → f < length image.funcs →
      function_at image.funcs f < code_start + 4 * length image.code
