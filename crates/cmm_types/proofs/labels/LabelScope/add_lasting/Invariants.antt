use Rattle.std.proofs.Common.{◌≡◌, ◌≤◌, ◌++◌, length, drop}
use Rattle.cmm_tree.specs.Rows.{handlers_of}
use Rattle.cmm_types.specs.Standing.{lasting_labels_of}
use Rattle.cmm_types.proofs.labels.LabelScope.add_lasting.Given as goal

abbrev pub invariant-loop-left : goal.invariant-loop-left
invariant-loop-left l =
    record {
      within : l.left ≤ length l.handlers;
      added : l.self ≡ lasting_labels_of (handlers_of (drop l.left l.handlers)) ++ l.initial.self;
    }

abbrev pub decreases-loop-left : goal.decreases-loop-left
decreases-loop-left l = l.left
