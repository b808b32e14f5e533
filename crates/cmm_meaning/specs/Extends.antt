-- A memory of a run beside a later one: no block and no static data goes away, or changes its shape.
use Rattle.std.specs.Prelude.{◌≡◌, ℕ, List, ◌++◌, length, map}
use Rattle.bs_words.specs.Memory.{Memory, HeapBlock, StaticList}

-- The shape of a block: its header, and how many cells it has.
pub record Shape : Type 0 where
  pub header : ℕ
  pub cells : ℕ

abbrev pub shape_of : HeapBlock → Shape
shape_of block = record { header = block.header; cells = length block.cells }

-- Where a list of static data lies, its bytes, and how many cells it has.
pub record StaticExtent : Type 0 where
  pub start : ℕ
  pub size : ℕ
  pub cells : ℕ

abbrev pub extent_of : StaticList → StaticExtent
extent_of statics =
    record { start = statics.start; size = statics.size; cells = length statics.cells }

-- The later memory has the blocks of the earlier one, each in its shape, and maybe others after them; its static data
-- lies as it lay, in as many cells, and its root cells are the same. Nothing is said of what the cells hold.
pub record Extends (earlier later : Memory) : Type 0 where
  pub further : List Shape
  pub blocks : map shape_of later.blocks ≡ map shape_of earlier.blocks ++ further
  pub statics : map extent_of later.statics ≡ map extent_of earlier.statics
  pub roots : later.roots ≡ earlier.roots
