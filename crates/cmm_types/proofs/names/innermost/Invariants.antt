use Rattle.std.proofs.Common.{◌≡◌, ◌≤◌, map, reverse, take, length}
use Rattle.cmm_types.specs.Types.{binding_of}
use Rattle.cmm_types.specs.Entries.{scoped_view}
use Rattle.cmm_types.proofs.names.innermost.Given as goal

abbrev pub invariant-loop-left : goal.invariant-loop-left
invariant-loop-left l =
    record {
      within : l.left ≤ length l.entries;
      same : binding_of (map scoped_view (reverse (take l.left l.entries))) l.name ≡ binding_of (map scoped_view (reverse l.entries)) l.name;
    }

abbrev pub decreases-loop-left : goal.decreases-loop-left
decreases-loop-left l = l.left
