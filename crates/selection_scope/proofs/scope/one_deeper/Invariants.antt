use Rattle.std.proofs.Common.{◌≡◌, ◌<◌, ◌++◌, length, map, reverse}
use Rattle.selection_rules.specs.Select.{labels_within_try}
use Rattle.selection_scope.specs.Room.{most_numbers, most_tries}
use Rattle.selection_scope.specs.Scoping.{target_view}
use Rattle.selection_scope.proofs.scope.one_deeper.Given as goal

abbrev pub invariant-loop-target : goal.invariant-loop-target
invariant-loop-target l =
    record {
      inside : map target_view l.inside.items ++ labels_within_try (map target_view (reverse l.labels.items)) ≡ labels_within_try (map target_view (reverse l.initial.labels.items));
      few : most_tries (map target_view (reverse l.labels.items)) < most_numbers;
    }

abbrev pub decreases-loop-target : goal.decreases-loop-target
decreases-loop-target l = length l.labels.items
