-- The memory that a machine keeps for moving blocks, beside that of its program.
use Rattle.std.specs.Prelude.{◌≡◌, ℕ, ◌/◌, ◌%◌, ◌≤◌, true, List, []}
use Rattle.std.specs.List.{AllByRecursion}
use Rattle.std.specs.Vec.{vec_capacity}
use Rattle.rv_machine.specs.Hart.{Placed}
use Rattle.rv_machine.specs.Marks.{IsClean}
use Rattle.rv_machine.specs.Placement.{bytes_used, is_in_heap}
use Rattle.rv_machine.specs.Places.{most_room}
use Rattle.rv_machine.specs.declared.space.Space.{Space}

-- The table has nothing for any address, and there is room for the young blocks, for a new start of each
-- block and for the words of all blocks.
pub record IsSpace (heap : ℕ) (space : Space) : Type 0 where
  pub of_heap : space.table.heap ≡ heap
  pub clean : IsClean space.table
  pub no_young : space.young.items ≡ []
  pub no_starts : space.starts.items ≡ []
  pub no_words : space.words.items ≡ []
  pub young : 4097 ≤ vec_capacity space.young
  pub starts : heap / 16 ≤ vec_capacity space.starts
  pub words : heap / 8 ≤ vec_capacity space.words

-- a block has a cell
abbrev pub HasCells : Placed → Type 0
HasCells b = 1 ≤ b.words

-- A block of the table: it has a cell, and lies in the heap.
pub record IsHeapBlock (heap : ℕ) (b : Placed) : Type 0 where
  pub some : 1 ≤ b.words
  pub inside : is_in_heap heap b ≡ true

-- The heap of a machine between services.
pub record IsHeap (heap : ℕ) (blocks : List Placed) : Type 0 where
  pub aligned : heap % 16 ≡ 0
  pub most : heap ≤ most_room
  pub each : AllByRecursion (IsHeapBlock heap) blocks
  pub fits : bytes_used blocks ≤ heap
