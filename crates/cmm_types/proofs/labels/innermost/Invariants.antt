use Rattle.std.proofs.Common.{◌≡◌, ◌≤◌, map, reverse, take, length}
use Rattle.cmm_tree.specs.View.{label_view}
use Rattle.cmm_types.specs.Standing.{handler_of}
use Rattle.cmm_types.specs.VisibleLabels.{visible_view}
use Rattle.cmm_types.proofs.labels.innermost.Given as goal

abbrev pub invariant-loop-left : goal.invariant-loop-left
invariant-loop-left l =
    record {
      within : l.left ≤ length l.visible;
      same : handler_of (map visible_view (reverse (take l.left l.visible))) (label_view l.label) ≡ handler_of (map visible_view (reverse l.visible)) (label_view l.label);
    }

abbrev pub decreases-loop-left : goal.decreases-loop-left
decreases-loop-left l = l.left
