-- A list of static data that is being filled.
use Rattle.std.specs.Prelude.{◌≡◌, ℕ, ◌+◌, ◌%◌, ◌<◌, List, ◌++◌, map, length}
use Rattle.bs_words.specs.declared.values.Value.{Value}
use Rattle.cmm_data.specs.Contents.{DataByte, Plain, cells_of}
use Rattle.cmm_data.specs.declared.filling.Filling as declared

-- the cells of the list if these bytes follow
abbrev pub cells_with : declared.Filling → List DataByte → List Value
cells_with filling rest = filling.cells.items ++ cells_of (map Plain filling.pending.items ++ rest)

-- the bytes of the cell that is not whole yet
abbrev pub pending_bytes : declared.Filling → ℕ
pending_bytes filling = length filling.pending.items

-- These bytes were added.
pub record Puts (old new : declared.Filling) (bytes : List DataByte) : Type 0 where
  pub small : pending_bytes new < 8
  pub count : pending_bytes new ≡ (pending_bytes old + length bytes) % 8
  pub cells : (rest : List DataByte) → cells_with new rest ≡ cells_with old (bytes ++ rest)
