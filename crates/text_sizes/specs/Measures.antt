-- What external calls and the symbols of static data take of a text, at the least.
use Rattle.std.specs.Prelude.{ℕ, ◌+◌, List, [], ◌∷◌, length}
use Rattle.cmm_tree.specs.Measures.{total}
use Rattle.cmm_tree.specs.Tree.{Expression, Extcall, DatumTree, Define, DataItemTree, ItemTree, AFunction, AData}
use Rattle.cmm_types.specs.Faults.{row_length}

-- a call: the bytes of its name, and one for each argument and for its other words
abbrev pub call_bytes : Expression → ℕ
call_bytes (Extcall at frame name arguments result result_at) =
    3 + (length name + row_length arguments)
call_bytes _ = 0

-- a definition: the bytes of its name, and a colon
abbrev pub datum_bytes : DatumTree → ℕ
datum_bytes (Define name) = 1 + length name
datum_bytes _ = 0

abbrev pub list_bytes : List DataItemTree → ℕ
list_bytes [] = 0
list_bytes (i ∷ items) = datum_bytes i.datum + list_bytes items

abbrev pub item_bytes : ItemTree → ℕ
item_bytes (AFunction f) = total call_bytes f.body
item_bytes (AData d) = list_bytes d.items

abbrev pub items_bytes : List ItemTree → ℕ
items_bytes [] = 0
items_bytes (i ∷ items) = item_bytes i + items_bytes items
