use Rattle.std.proofs.Common.{◌≡◌, ◌+◌, ◌++◌, length, map}
use Rattle.cmm_tree.specs.Rows.{handlers_of}
use Rattle.selection_scope.specs.Scoping.{target_view}
use Rattle.selection_rules.specs.Select.{labels_from, width_labels}
use Rattle.selection_scope.proofs.scope.targets.Given as goal

abbrev pub invariant-loop-rest : goal.invariant-loop-rest
invariant-loop-rest l =
    record {
      targets : map target_view l.targets.items ++ labels_from l.next (handlers_of l.rest) ≡ labels_from l.fn.number (handlers_of l.fn.handlers);
      room : l.next + width_labels (handlers_of l.rest) ≡ l.fn.number + width_labels (handlers_of l.fn.handlers);
    }

abbrev pub decreases-loop-rest : goal.decreases-loop-rest
decreases-loop-rest l = length l.rest
