use Rattle.std.proofs.Common.{◌≡◌, ◌++◌, length, map, reverse}
use Rattle.selection_scope.specs.Scoping.{target_view, labels_outside_try}
use Rattle.selection_scope.proofs.scope.one_higher.Given as goal

abbrev pub invariant-loop-target : goal.invariant-loop-target
invariant-loop-target l =
    map target_view l.outside.items ++ labels_outside_try (map target_view (reverse l.labels.items)) ≡ labels_outside_try (map target_view (reverse l.initial.labels.items))

abbrev pub decreases-loop-target : goal.decreases-loop-target
decreases-loop-target l = length l.labels.items
