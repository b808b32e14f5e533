use Rattle.std.proofs.Common.{◌≡◌, length, map, reverse}
use Rattle.cmm_tree.specs.View.{label_view}
use Rattle.selection_rules.specs.Select.{visible_label}
use Rattle.selection_scope.specs.Scoping.{target_view}
use Rattle.selection_scope.proofs.scope.handler_for.Given as goal

abbrev pub invariant-loop-last : goal.invariant-loop-last
invariant-loop-last l =
    visible_label (map target_view (reverse l.rest)) (label_view l.label) ≡ visible_label (map target_view (reverse l.fn.labels)) (label_view l.label)

abbrev pub decreases-loop-last : goal.decreases-loop-last
decreases-loop-last l = length l.rest
