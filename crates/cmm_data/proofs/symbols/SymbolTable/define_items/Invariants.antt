use Rattle.std.proofs.Common.{◌≡◌, ◌+◌, ◌≤◌, ℕ, List, drop, map, None}
use Rattle.std.specs.Option.{option_or}
use Rattle.bs_words.specs.Fits.{data_limit, data_start}
use Rattle.cmm_tree.specs.View.{data_item_view}
use Rattle.cmm_data.specs.Placement.{items_from, end_of_items, defined_at, value_among}
use Rattle.cmm_data.specs.Faults.{first_fault}
use Rattle.cmm_data.specs.Symbols.{value_in}
use Rattle.cmm_data.proofs.symbols.SymbolTable.define_items.Given as goal

-- the table has what the items before define; those that are left have no fault
abbrev pub invariant-loop-item : goal.invariant-loop-item
invariant-loop-item l =
    record {
      within : l.address ≤ data_start + data_limit;
      faultless : first_fault (items_from l.address (map data_item_view (drop l.item-index l.items))) ≡ None;
      end : end_of_items l.start (map data_item_view l.items) ≡ end_of_items l.address (map data_item_view (drop l.item-index l.items));
      adds : (name : List ℕ) →
          option_or (value_in l.fn.self name) (value_among (defined_at l.start (map data_item_view l.items)) name)
          ≡ option_or (value_in l.self name) (value_among (defined_at l.address (map data_item_view (drop l.item-index l.items))) name);
    }
