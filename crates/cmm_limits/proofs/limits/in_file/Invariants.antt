use Rattle.std.proofs.Common.{◌≡◌, drop, map, None}
use Rattle.cmm_tree.specs.View.{item_view}
use Rattle.bs_fault.specs.Reported.{noted_all}
use Rattle.cmm_limits.specs.Limits.{items_limit_faults}
use Rattle.bs_words.specs.Contents.{contents}
use Rattle.cmm_limits.proofs.limits.in_file.Given as goal

-- the items that are left go on to all
abbrev pub invariant-loop-item : goal.invariant-loop-item
invariant-loop-item l =
    noted_all (items_limit_faults (map item_view (drop l.item-index l.item-items))) l.reported
    ≡ noted_all (items_limit_faults (map item_view (contents l.file.items))) None
