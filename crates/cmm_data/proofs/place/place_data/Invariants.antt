use Rattle.std.proofs.Common.{◌≡◌, ◌+◌, ◌≤◌, ◌++◌, drop, map, None}
use Rattle.bs_words.specs.Fits.{data_limit, data_start}
use Rattle.cmm_tree.specs.Tree.{data_among}
use Rattle.cmm_tree.specs.View.{item_view, file_view}
use Rattle.cmm_data.specs.Placement.{lists_behind, items_of_lists, end_of_lists, placed_symbols, symbols_of, value_of_symbol, data_end}
use Rattle.cmm_data.specs.Faults.{first_fault}
use Rattle.cmm_data.specs.Contents.{static_list, statics, roots_among, root_cells}
use Rattle.cmm_data.specs.Map.{symbol_view, cells_view}
use Rattle.cmm_data.proofs.place.place_data.Given as goal

-- the lists that are left, from here on, say it
abbrev pub invariant-loop-item : goal.invariant-loop-item
invariant-loop-item l =
    record {
      begins : data_start ≤ l.end;
      within : l.end ≤ data_start + data_limit;
      faultless : first_fault (items_of_lists (lists_behind l.end (data_among (map item_view (drop l.item-index l.item-items))))) ≡ None;
      end : data_end (file_view l.file) ≡ end_of_lists l.end (data_among (map item_view (drop l.item-index l.item-items)));
      symbols :
          symbols_of (file_view l.file)
          ≡ map symbol_view l.symbols.items ++ placed_symbols (items_of_lists (lists_behind l.end (data_among (map item_view (drop l.item-index l.item-items)))));
      roots :
          root_cells (file_view l.file)
          ≡ l.roots.items ++ roots_among (items_of_lists (lists_behind l.end (data_among (map item_view (drop l.item-index l.item-items)))));
      lists :
          statics (file_view l.file)
          ≡ map cells_view l.lists.items
          ++ map (static_list (value_of_symbol (file_view l.file))) (lists_behind l.end (data_among (map item_view (drop l.item-index l.item-items))));
    }
