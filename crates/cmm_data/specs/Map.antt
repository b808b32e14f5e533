-- What a map of the code says.
use Rattle.std.specs.Prelude.{◌≡◌, map}
use Rattle.bs_words.specs.Contents.{contents}
use Rattle.bs_words.specs.Memory.{StaticList}
use Rattle.cmm_tree.specs.Tree.{FileTree}
use Rattle.cmm_data.specs.declared.data_map.DataSymbol.{DataSymbol}
use Rattle.cmm_data.specs.declared.data_map.DataCells.{DataCells}
use Rattle.cmm_data.specs.declared.data_map.DataMap.{DataMap}
use Rattle.cmm_data.specs.Placement.{DataSymbolTree, symbols_of, data_bytes}
use Rattle.cmm_data.specs.Contents.{statics, root_cells}

abbrev pub symbol_view : DataSymbol → DataSymbolTree
symbol_view s = record { name = s.name; address = s.address }

abbrev pub cells_view : DataCells → StaticList
cells_view l = record { start = l.start; size = l.size; cells = contents l.cells }

-- The map is that of the static data of this file.
pub record IsMapOf (file : FileTree) (m : DataMap) : Type 0 where
  pub symbols : map symbol_view (contents m.symbols) ≡ symbols_of file
  pub lists : map cells_view (contents m.lists) ≡ statics file
  pub roots : contents m.roots ≡ root_cells file
  pub bytes : m.bytes ≡ data_bytes file
