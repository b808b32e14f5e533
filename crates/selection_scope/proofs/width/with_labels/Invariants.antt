use Rattle.std.proofs.Common.{◌≡◌, ◌+◌, ◌≤◌, drop}
use Rattle.cmm_tree.specs.Rows.{handlers_of}
use Rattle.selection_rules.specs.Select.{width_labels}
use Rattle.selection_scope.specs.Widths.{capped}
use Rattle.selection_scope.proofs.width.with_labels.Given as goal

abbrev pub invariant-loop-handler : goal.invariant-loop-handler
invariant-loop-handler l =
    record {
      same : capped (l.total + width_labels (handlers_of (drop l.handler-index l.handlers))) ≡ capped (l.fn.so_far + width_labels (handlers_of l.handlers));
      small : l.total ≤ 4294967295;
    }
