-- The bytes of the rows of an image.
use Rattle.std.specs.Prelude.{ℕ, ◌+◌, length}
use Rattle.bs_words.specs.Contents.{contents}
use Rattle.cmm_data.specs.declared.data_map.DataSymbol.{DataSymbol}
use Rattle.cmm_tree.specs.declared.file.Item.{Item}
use Rattle.cmm_tree.specs.declared.file.Item.TheVariants as item
use Rattle.function_places.specs.declared.places.Laid.{Laid}
use Rattle.image_form.specs.declared.image.ExtRow.{ExtRow}

-- of a function: its name after 2 bytes, its types after 1, three numbers of 4, and its result
abbrev pub item_size : Item → ℕ
item_size (item.Function f) = 16 + length f.name + length (contents f.params)
item_size (item.Data d) = 0

abbrev pub symbol_size : DataSymbol → ℕ
symbol_size s = 6 + length s.name

abbrev pub call_size : ExtRow → ℕ
call_size e = 4 + length e.name + length (contents e.params)

-- of all descriptors of a function
abbrev pub descs_size : Laid → ℕ
descs_size own = own.descs
