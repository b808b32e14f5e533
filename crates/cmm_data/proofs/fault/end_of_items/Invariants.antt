use Rattle.std.proofs.Common.{◌≡◌, ◌+◌, ◌≤◌, drop, map}
use Rattle.bs_words.specs.Fits.{data_limit, data_start}
use Rattle.cmm_tree.specs.View.{data_item_view}
use Rattle.cmm_data.specs.Placement.{items_from, end_of_items}
use Rattle.cmm_data.specs.Faults.{first_fault}
use Rattle.cmm_data.proofs.fault.end_of_items.Given as goal

-- the items that are left, from here on, say it
abbrev pub invariant-loop-item : goal.invariant-loop-item
invariant-loop-item l =
    record {
      within : l.address ≤ data_start + data_limit;
      fault : first_fault (items_from l.start (map data_item_view l.items)) ≡ first_fault (items_from l.address (map data_item_view (drop l.item-index l.items)));
      end : end_of_items l.start (map data_item_view l.items) ≡ end_of_items l.address (map data_item_view (drop l.item-index l.items));
    }
