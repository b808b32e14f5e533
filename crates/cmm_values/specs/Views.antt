-- What the values of the code stand for.
use Rattle.std.specs.Prelude.{ℕ, [], slice_index_or}
use Rattle.bs_words.specs.Memory.{HeapBlock, StaticList, InHeader, InBlock, InStatic}
use Rattle.bs_words.specs.Memory as memory
use Rattle.cmm_values.specs.declared.access.Cell.{Cell}
use Rattle.cmm_values.specs.declared.access.Cell.TheVariants as cell
use Rattle.cmm_values.specs.declared.access.HeapCells.{HeapCells}
use Rattle.cmm_values.specs.declared.access.StaticCells.{StaticCells}

abbrev pub block_view : HeapCells → HeapBlock
block_view b = record { header = b.header; cells = b.cells.items }

abbrev pub list_view : StaticCells → StaticList
list_view l = record { start = l.start; size = l.size; cells = l.cells.items }

abbrev pub cell_view : Cell → memory.Cell
cell_view (cell.Header serial) = InHeader serial
cell_view (cell.Block serial index) = InBlock serial index
cell_view (cell.Static list index) = InStatic list index

abbrev pub header_of_block : memory.Memory → ℕ → ℕ
header_of_block m serial = (slice_index_or m.blocks serial (record { header = 0; cells = [] })).header

abbrev pub start_at : memory.Memory → ℕ → ℕ
start_at m list = (slice_index_or m.statics list (record { start = 0; size = 0; cells = [] })).start
