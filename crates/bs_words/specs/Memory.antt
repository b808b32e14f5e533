-- The memory of a Cmm run: what is loaded and stored, and why not.
use Rattle.std.specs.Prelude.{◌≡◌, ◌⊎◌, ℕ, zero, suc, ◌+◌, ◌-◌, ◌*◌, ◌/◌, ◌%◌, ◌^◌, Bool, true, false, cond, ◌&&◌, ◌==◌, nat_le, List, [], ◌∷◌, ◌++◌, Option, Some, None, Result, Ok, Err, map, length, sum, slice_get, slice_set, slice_index_or}
use Rattle.bs_words.specs.Fits.{fits, misfit, data_start}
use Rattle.bs_words.specs.Word.{sext_word}
use Rattle.bs_words.specs.declared.types.Chunk.{Chunk}
use Rattle.bs_words.specs.declared.types.Chunk.TheVariants as chunk
use Rattle.bs_words.specs.declared.types.Ty.{Ty}
use Rattle.bs_words.specs.declared.types.Ty.TheVariants as ty
use Rattle.bs_words.specs.declared.values.Kind.{Kind}
use Rattle.bs_words.specs.declared.values.Kind.TheVariants.{BadAddress, PartOfPointer, HeaderWrite}
use Rattle.bs_words.specs.declared.values.Value.{Value}
use Rattle.bs_words.specs.declared.values.Value.TheVariants.{Word, Block, Function}

-- A block on the heap: its header word, and the values of its cells.
pub record HeapBlock : Type 0 where
  pub header : ℕ
  pub cells : List Value

-- A list of static data: where it begins, its bytes, and the values of its cells of 8 bytes. Zeros fill up
-- the last cell where the bytes are no multiple of 8.
pub record StaticList : Type 0 where
  pub start : ℕ
  pub size : ℕ
  pub cells : List Value

pub record Memory : Type 0 where
  -- by serial, in the order of their allocation
  pub blocks : List HeapBlock
  -- in the order of their addresses
  pub statics : List StaticList
  -- the addresses of the root cells of static data
  pub roots : List ℕ

-- the bytes of a block, its header counted
abbrev pub block_bytes : HeapBlock → ℕ
block_bytes block = 8 * (length block.cells + 1)

-- the number of cells of each block, by serial
abbrev pub sizes : Memory → List ℕ
sizes memory = map (λ (block : HeapBlock). length block.cells) memory.blocks

-- the heap need of a run that has come to this memory: no block is ever given back
abbrev pub heap_need : Memory → ℕ
heap_need memory = sum (map block_bytes memory.blocks)

-- the first address past the data: the end of the last list
abbrev pub end_of_statics : ℕ → List StaticList → ℕ
end_of_statics end [] = end
end_of_statics end (l ∷ lists) = end_of_statics (l.start + l.size) lists

abbrev pub end_of_data : Memory → ℕ
end_of_data memory = end_of_statics data_start memory.statics

-- ---- what an access may be

-- the bytes of an access
abbrev pub width : Chunk → ℕ
width chunk.U8 = 1
width chunk.I8 = 1
width chunk.U16 = 2
width chunk.I16 = 2
width chunk.U32 = 4
width chunk.I32 = 4
width chunk.Int = 8
width chunk.Val = 8

-- a number of bytes that an access may have
abbrev pub IsWidth : ℕ → Type 0
IsWidth w = (w ≡ 1) ⊎ (w ≡ 2) ⊎ (w ≡ 4) ⊎ (w ≡ 8)

-- the type of what is loaded, and of what is stored
abbrev pub type_of_chunk : Chunk → Ty
type_of_chunk chunk.Val = ty.Val
type_of_chunk _ = ty.Int

-- The cell that an access lies in: the header of a block or one of its cells, or a cell of a list of
-- static data.
pub data Cell : Type 0 where
  InHeader : (serial : ℕ) → Cell
  InBlock : (serial index : ℕ) → Cell
  InStatic : (list index : ℕ) → Cell

abbrev pub cell_of_block : ℕ → ℕ → Cell
cell_of_block serial zero = InHeader serial
cell_of_block serial (suc index) = InBlock serial index

-- the cell of a block of so many cells where so many bytes, from here on after the header's first byte,
-- lie in it
abbrev pub in_block : ℕ → Option ℕ → ℕ → ℕ → Option Cell
in_block serial None from bytes = None
in_block serial (Some cells) from bytes =
    cond (nat_le (from + bytes) (8 * (cells + 1))) (Some (cell_of_block serial (from / 8))) None

-- the cell of static data where so many bytes from an address on lie in one list, the first list having
-- this number
abbrev pub in_statics : ℕ → List StaticList → ℕ → ℕ → Option Cell
in_statics k [] address bytes = None
in_statics k (l ∷ lists) address bytes =
    cond (nat_le l.start address && nat_le (address + bytes) (l.start + l.size))
    (Some (InStatic k ((address - l.start) / 8)))
    (in_statics (suc k) lists address bytes)

-- the cell of an access of so many bytes at a value: it is at a multiple of its bytes, and lies in one block,
-- its header included, or in one list of static data. A function is no address of memory.
abbrev pub cell_at : Memory → ℕ → Value → Option Cell
cell_at memory bytes (Word address) =
    cond (address % bytes == 0) (in_statics 0 memory.statics address bytes) None
cell_at memory bytes (Block serial offset) =
    cond (offset % bytes == 0) (in_block serial (slice_get (sizes memory) serial) ((offset + 8) % 2 ^ 64) bytes) None
cell_at memory bytes (Function f) = None

-- the bytes before an access in its cell
abbrev pub offset_in_cell : Value → ℕ
offset_in_cell (Word address) = address % 8
offset_in_cell (Block serial offset) = offset % 8
offset_in_cell (Function f) = 0

abbrev pub value_in_cell : Memory → Cell → Value
value_in_cell memory (InHeader serial) = Word ((slice_index_or memory.blocks serial (record { header = 0; cells = [] })).header)
value_in_cell memory (InBlock serial index) =
    slice_index_or (slice_index_or memory.blocks serial (record { header = 0; cells = [] })).cells index (Word 0)
value_in_cell memory (InStatic list index) =
    slice_index_or (slice_index_or memory.statics list (record { start = 0; size = 0; cells = [] })).cells index (Word 0)

-- a block whose tag is 250 or less is scanned: its cells hold what fits val; those of others what fits int
abbrev pub type_of_cells : ℕ → Ty
type_of_cells header = cond (nat_le (header % 256) 250) ty.Val ty.Int

abbrev pub is_root : List ℕ → ℕ → Bool
is_root [] address = false
is_root (r ∷ roots) address = cond (r == address) true (is_root roots address)

-- a static cell that is a root holds what fits val, another one what fits int
abbrev pub type_of_static : Bool → Ty
type_of_static true = ty.Val
type_of_static false = ty.Int

abbrev pub type_in : Memory → Cell → Ty
type_in memory (InHeader serial) = ty.Int
type_in memory (InBlock serial index) =
    type_of_cells (slice_index_or memory.blocks serial (record { header = 0; cells = [] })).header
type_in memory (InStatic list index) =
    type_of_static (is_root memory.roots ((slice_index_or memory.statics list (record { start = 0; size = 0; cells = [] })).start + 8 * index))

abbrev pub with_cell_value : Memory → Cell → Value → Memory
with_cell_value memory (InHeader serial) value = memory
with_cell_value memory (InBlock serial index) value =
    let block = slice_index_or memory.blocks serial (record { header = 0; cells = [] }) in
    record memory { blocks = slice_set memory.blocks serial (record block { cells = slice_set block.cells index value }) }
with_cell_value memory (InStatic list index) value =
    let statics = slice_index_or memory.statics list (record { start = 0; size = 0; cells = [] }) in
    record memory { statics = slice_set memory.statics list (record statics { cells = slice_set statics.cells index value }) }

-- ---- loads

-- so many bytes of a word, from one of its bytes on
abbrev pub part : ℕ → ℕ → ℕ → ℕ
part word offset bytes = word / 2 ^ (8 * offset) % 2 ^ (8 * bytes)

-- a part of a word, extended by its chunk
abbrev pub extended : Chunk → ℕ → ℕ
extended chunk.I8 n = sext_word n 8
extended chunk.I16 n = sext_word n 16
extended chunk.I32 n = sext_word n 32
extended _ n = n

-- a value of this type, or why it is none
abbrev pub value_of_type : ℕ → Ty → Value → Result Value Kind
value_of_type end type value = cond (fits end type value) (Ok value) (Err (misfit type))

-- a load of 8 bytes gives the value of the cell, which must fit the chunk's type; a smaller one wants a
-- word in the cell
abbrev pub loaded_as : Chunk → ℕ → ℕ → Value → Result Value Kind
loaded_as chunk.Int end offset value = value_of_type end ty.Int value
loaded_as chunk.Val end offset value = value_of_type end ty.Val value
loaded_as c end offset (Word w) = Ok (Word (extended c (part w offset (width c))))
loaded_as c end offset (Block s o) = Err PartOfPointer
loaded_as c end offset (Function f) = Err PartOfPointer

abbrev pub loaded_from : Chunk → Memory → ℕ → Option Cell → Result Value Kind
loaded_from c memory offset None = Err BadAddress
loaded_from c memory offset (Some cell) = loaded_as c (end_of_data memory) offset (value_in_cell memory cell)

-- what is loaded at an address
abbrev pub loaded : Chunk → Memory → Value → Result Value Kind
loaded c memory address = loaded_from c memory (offset_in_cell address) (cell_at memory (width c) address)

-- ---- stores

-- the memory with this value in a cell, which it must fit
abbrev pub put_in : ℕ → Memory → Cell → Value → Result Memory Kind
put_in end memory cell value =
    cond (fits end (type_in memory cell) value) (Ok (with_cell_value memory cell value)) (Err (misfit (type_in memory cell)))

-- the word with the lowest bytes of another from one of its bytes on
abbrev pub replaced : ℕ → ℕ → ℕ → ℕ → ℕ
replaced word offset bytes new =
    word - part word offset bytes * 2 ^ (8 * offset) + new % 2 ^ (8 * bytes) * 2 ^ (8 * offset)

-- a smaller store wants a word as value and a word in the cell
abbrev pub put_part : ℕ → Memory → Cell → ℕ → ℕ → Value → Value → Result Memory Kind
put_part end memory cell offset bytes (Word old) (Word new) = put_in end memory cell (Word (replaced old offset bytes new))
put_part end memory cell offset bytes _ _ = Err PartOfPointer

-- a store of 8 bytes wants a value that fits the chunk's type, and then the cell
abbrev pub put_whole : Ty → ℕ → Memory → Cell → Value → Result Memory Kind
put_whole type end memory cell value =
    cond (fits end type value) (put_in end memory cell value) (Err (misfit type))

abbrev pub stored_as : Chunk → ℕ → Memory → Cell → ℕ → Value → Result Memory Kind
stored_as chunk.Int end memory cell offset value = put_whole ty.Int end memory cell value
stored_as chunk.Val end memory cell offset value = put_whole ty.Val end memory cell value
stored_as c end memory cell offset value = put_part end memory cell offset (width c) (value_in_cell memory cell) value

-- nothing is stored to a header
abbrev pub stored_in : Chunk → Memory → ℕ → Option Cell → Value → Result Memory Kind
stored_in c memory offset None value = Err BadAddress
stored_in c memory offset (Some (InHeader serial)) value = Err HeaderWrite
stored_in c memory offset (Some cell) value = stored_as c (end_of_data memory) memory cell offset value

-- the memory after a store of a value at an address
abbrev pub stored : Chunk → Memory → Value → Value → Result Memory Kind
stored c memory address value = stored_in c memory (offset_in_cell address) (cell_at memory (width c) address) value

-- ---- allocation

abbrev pub all_fit : ℕ → Ty → List Value → Bool
all_fit end type [] = true
all_fit end type (v ∷ values) = fits end type v && all_fit end type values

-- the memory with one block more, whose cells hold these values; they must fit
abbrev pub allocated : Memory → ℕ → List Value → Result Memory Kind
allocated memory header values =
    cond (all_fit (end_of_data memory) (type_of_cells header) values)
    (Ok (record memory { blocks = memory.blocks ++ record { header = header; cells = values } ∷ [] }))
    (Err (misfit (type_of_cells header)))

-- the pointer to the next block that is allocated
abbrev pub next_block : Memory → Value
next_block memory = Block (length memory.blocks) 0
