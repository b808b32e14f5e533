use Rattle.std.proofs.Common.{◌≡◌, drop, map}
use Rattle.cmm_tree.specs.View.{index_view}
use Rattle.bs_fault.specs.Reported.{noted_all}
use Rattle.cmm_limits.specs.Limits.{index_faults}
use Rattle.cmm_limits.proofs.limits.in_indexes.Given as goal

-- the numbers that are left go on to all
abbrev pub invariant-loop-index : goal.invariant-loop-index
invariant-loop-index l =
    noted_all (index_faults l.size (map index_view (drop l.index-index l.indexes))) l.reported
    ≡ noted_all (index_faults l.size (map index_view l.indexes)) l.fn.found
