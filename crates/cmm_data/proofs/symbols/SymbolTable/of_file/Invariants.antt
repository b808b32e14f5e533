use Rattle.std.proofs.Common.{◌≡◌, ◌+◌, ◌≤◌, ℕ, List, drop, length, map, None}
use Rattle.std.specs.Option.{option_or}
use Rattle.bs_words.specs.Fits.{data_limit, data_start}
use Rattle.cmm_tree.specs.Tree.{data_among, functions, functions_among}
use Rattle.cmm_tree.specs.View.{item_view, file_view}
use Rattle.cmm_data.specs.Placement.{lists_behind, items_of_lists, defined_from, value_among, value_of_symbol}
use Rattle.cmm_data.specs.Faults.{first_fault}
use Rattle.cmm_data.specs.Symbols.{value_in}
use Rattle.cmm_data.proofs.symbols.SymbolTable.of_file.Given as goal

-- the table has what the items before define; those that are left have no fault
abbrev pub invariant-loop-item : goal.invariant-loop-item
invariant-loop-item l =
    record {
      within : l.end ≤ data_start + data_limit;
      faultless : first_fault (items_of_lists (lists_behind l.end (data_among (map item_view (drop l.item-index l.item-items))))) ≡ None;
      counted : l.functions + length (functions_among (map item_view (drop l.item-index l.item-items))) ≡ length (functions (file_view l.file));
      has : (name : List ℕ) →
          value_of_symbol (file_view l.file) name
          ≡ option_or (value_in l.table name) (value_among (defined_from l.functions l.end (map item_view (drop l.item-index l.item-items))) name);
    }
