use Rattle.std.proofs.Common.{◌≡◌, ◌+◌, ◌≤◌, drop, map}
use Rattle.bs_words.specs.Fits.{data_limit, data_start}
use Rattle.cmm_tree.specs.Tree.{data_among}
use Rattle.cmm_tree.specs.View.{item_view, file_view}
use Rattle.cmm_data.specs.Placement.{lists_behind, items_of_lists}
use Rattle.cmm_data.specs.Faults.{first_fault, data_fault_of}
use Rattle.cmm_data.proofs.fault.data_fault.Given as goal

-- the lists that are left, from here on, say it
abbrev pub invariant-loop-item : goal.invariant-loop-item
invariant-loop-item l =
    record {
      within : l.end ≤ data_start + data_limit;
      fault : data_fault_of (file_view l.file) ≡ first_fault (items_of_lists (lists_behind l.end (data_among (map item_view (drop l.item-index l.item-items)))));
    }
