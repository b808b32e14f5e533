-- What static data holds: its bytes, its cells, and the memory that a run begins with.
--
-- An undefined symbol is 8 zero bytes: such a file is refused elsewhere. Of a symbol that is defined twice
-- the first definition counts, functions and data together, the built-in one before all.
use Rattle.std.specs.Prelude.{ℕ, zero, suc, ◌+◌, ◌-◌, ◌*◌, ◌/◌, ◌%◌, Bool, true, false, List, [], ◌∷◌, Option, Some, None, map, cond, replicate}
use Rattle.std.specs.List.{flat_map}
use Rattle.bs_words.specs.Memory.{StaticList, Memory}
use Rattle.bs_words.specs.declared.values.Value.{Value}
use Rattle.bs_words.specs.declared.values.Value.TheVariants.{Word, Block, Function}
use Rattle.cmm_tree.specs.Tree.{DatumTree, Byte, Half, Int, Val, Address, Text, FileTree}
use Rattle.cmm_data.specs.Placement.{PlacedItem, PlacedList, size_at, placed_lists, placed_items, value_of_symbol}

-- ---- bytes

-- A byte of static data: a number, or a byte of the address of a function, which no text knows.
pub data DataByte : Type 0 where
  Plain : (byte : ℕ) → DataByte
  OfFunction : (function : ℕ) → DataByte

-- the lowest bytes of a word, little-endian
abbrev pub little_endian : ℕ → ℕ → List DataByte
little_endian zero word = []
little_endian (suc count) word = Plain (word % 256) ∷ little_endian count (word / 256)

abbrev pub zeros : ℕ → List DataByte
zeros count = replicate count (Plain 0)

-- an integer of so many bytes
abbrev pub bytes_of_integer : ℕ → Option ℕ → List DataByte
bytes_of_integer count (Some word) = little_endian count word
bytes_of_integer count None = zeros count

-- the bytes that are written for the address of a symbol. No symbol is a block, and one that is not defined
-- is reported as a fault.
abbrev pub symbol_bytes : Option Value → List DataByte
symbol_bytes (Some (Word address)) = little_endian 8 address
symbol_bytes (Some (Function f)) = replicate 8 (OfFunction f)
symbol_bytes (Some (Block serial offset)) = zeros 8
symbol_bytes None = zeros 8

-- the bytes of an item at its address, where symbols stand for these values
abbrev pub bytes_at : (List ℕ → Option Value) → ℕ → DatumTree → List DataByte
bytes_at symbols address (Byte word) = bytes_of_integer 1 word
bytes_at symbols address (Half word) = bytes_of_integer 2 word
bytes_at symbols address (Int word) = bytes_of_integer 8 word
bytes_at symbols address (Val word) = bytes_of_integer 8 word
bytes_at symbols address (Address root name_at name) = symbol_bytes (symbols name)
bytes_at symbols address (Text bytes) = map Plain bytes
bytes_at symbols address datum = zeros (size_at address datum)

abbrev pub bytes_of_items : (List ℕ → Option Value) → List PlacedItem → List DataByte
bytes_of_items symbols items = flat_map (λ (i : PlacedItem). bytes_at symbols i.address i.datum) items

-- ---- cells

abbrev pub byte_number : DataByte → ℕ
byte_number (Plain byte) = byte
byte_number (OfFunction f) = 0

-- the word of these bytes, little-endian; above the last one are zeros
abbrev pub word_of_bytes : List DataByte → ℕ
word_of_bytes [] = 0
word_of_bytes (b ∷ bytes) = byte_number b + 256 * word_of_bytes bytes

-- the value of a cell of these bytes: the address of a function fills its cell
abbrev pub cell_of : List DataByte → Value
cell_of (OfFunction f ∷ bytes) = Function f
cell_of bytes = Word (word_of_bytes bytes)

-- the values of the cells of 8 bytes; zeros fill up the last one
abbrev pub cells_of : List DataByte → List Value
cells_of [] = []
cells_of (a ∷ b ∷ c ∷ d ∷ e ∷ f ∷ g ∷ h ∷ rest) = cell_of (a ∷ b ∷ c ∷ d ∷ e ∷ f ∷ g ∷ h ∷ []) ∷ cells_of rest
cells_of bytes = cell_of bytes ∷ []

-- ---- the memory that a run begins with

abbrev pub static_list : (List ℕ → Option Value) → PlacedList → StaticList
static_list symbols l = record { start = l.start; size = l.end - l.start; cells = cells_of (bytes_of_items symbols l.items) }

-- the lists of static data with the values of their cells, the built-in list first
abbrev pub statics : FileTree → List StaticList
statics file = map (static_list (value_of_symbol file)) (placed_lists file)

-- the items that are written as a `val`
abbrev pub is_root_datum : DatumTree → Bool
is_root_datum (Val word) = true
is_root_datum (Address root name_at name) = root
is_root_datum _ = false

-- the address of an item, where it is a root cell
abbrev pub root_of_item : ℕ → DatumTree → List ℕ
root_of_item address datum = cond (is_root_datum datum) (address ∷ []) []

abbrev pub roots_among : List PlacedItem → List ℕ
roots_among items = flat_map (λ (i : PlacedItem). root_of_item i.address i.datum) items

-- the addresses of the root cells, in order
abbrev pub root_cells : FileTree → List ℕ
root_cells file = roots_among (placed_items file)

-- no block, and the static data of the file
abbrev pub first_memory : FileTree → Memory
first_memory file = record { blocks = []; statics = statics file; roots = root_cells file }
