use Rattle.std.proofs.Common.{◌≡◌, ◌+◌, ◌%◌, ◌<◌, ◌≤◌, ◌++◌, drop, map, None}
use Rattle.bs_words.specs.Fits.{data_limit, data_start}
use Rattle.cmm_tree.specs.View.{data_item_view}
use Rattle.cmm_data.specs.Placement.{items_from, end_of_items, placed_symbols}
use Rattle.cmm_data.specs.Faults.{first_fault}
use Rattle.cmm_data.specs.Contents.{bytes_of_items, cells_of, roots_among}
use Rattle.cmm_data.specs.Filling.{pending_bytes, cells_with}
use Rattle.cmm_data.specs.Symbols.{value_in}
use Rattle.cmm_data.specs.Map.{symbol_view}
use Rattle.cmm_data.proofs.place.place_items.Given as goal

-- the items that are left, from here on, say it
abbrev pub invariant-loop-item : goal.invariant-loop-item
invariant-loop-item l =
    record {
      begins : l.start ≤ l.address;
      within : l.address ≤ data_start + data_limit;
      faultless : first_fault (items_from l.address (map data_item_view (drop l.item-index l.items))) ≡ None;
      end : end_of_items l.start (map data_item_view l.items) ≡ end_of_items l.address (map data_item_view (drop l.item-index l.items));
      small : pending_bytes l.filling < 8;
      place : pending_bytes l.filling ≡ l.address % 8;
      symbols :
          map symbol_view l.fn.symbols.items ++ placed_symbols (items_from l.start (map data_item_view l.items))
          ≡ map symbol_view l.symbols.items ++ placed_symbols (items_from l.address (map data_item_view (drop l.item-index l.items)));
      roots :
          l.fn.roots.items ++ roots_among (items_from l.start (map data_item_view l.items))
          ≡ l.roots.items ++ roots_among (items_from l.address (map data_item_view (drop l.item-index l.items)));
      cells :
          cells_of (bytes_of_items (value_in l.table) (items_from l.start (map data_item_view l.items)))
          ≡ cells_with l.filling (bytes_of_items (value_in l.table) (items_from l.address (map data_item_view (drop l.item-index l.items))));
    }
