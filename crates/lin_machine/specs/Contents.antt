-- The text's memory as the services of the machine see it: headers and cells that have not been
-- written hold nothing.
use Rattle.std.specs.Prelude.{ℕ, ◌%◌, ◌==◌, cond, length, Option, Some, None, slice_get}
use Rattle.bs_words.specs.Memory.{Memory, HeapBlock, Cell, InHeader, InBlock, cell_at, value_in_cell}
use Rattle.bs_words.specs.declared.values.Value.{Value}
use Rattle.bs_words.specs.declared.values.Value.TheVariants.{Word}
use Rattle.mach_ir.specs.Acts.{Around, is_among_cells}
use Rattle.moving_laws.specs.Stands.{Blocks}

abbrev pub header_in : Option HeapBlock → Option ℕ
header_in None = None
header_in (Some b) = Some b.header

abbrev pub size_in : Option HeapBlock → ℕ
size_in None = 0
size_in (Some b) = length b.cells

abbrev pub cell_in : Option HeapBlock → ℕ → Option Value
cell_in None j = None
cell_in (Some b) j = slice_get b.cells j

abbrev pub blocks_of : Around → Blocks
blocks_of a = record {
  count = length a.memory.blocks;
  size = λ k. size_in (slice_get a.memory.blocks k);
  header = λ k. cond (is_among_cells (InHeader k) a.unwritten) None
      (header_in (slice_get a.memory.blocks k));
  cell = λ k j. cond (is_among_cells (InBlock k j) a.unwritten) None
      (cell_in (slice_get a.memory.blocks k) j);
}

abbrev pub static_in : Memory → Option Cell → Option Value
static_in memory None = None
static_in memory (Some cell) = Some (value_in_cell memory cell)

-- the static cells by address, also the last one of a list where its bytes do not fill it
abbrev pub statics_of : Memory → ℕ → Option Value
statics_of memory x = cond (x % 8 == 0) (static_in memory (cell_at memory 1 (Word x))) None
