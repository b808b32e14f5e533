use Rattle.std.proofs.Common.{◌≡◌, ◌++◌, length, map, reverse}
use Rattle.selection_scope.specs.Scoping.{target_view}
use Rattle.selection_rules.specs.Select.{in_handlers}
use Rattle.selection_scope.proofs.scope.put_lasting.Given as goal

abbrev pub invariant-loop-target : goal.invariant-loop-target
invariant-loop-target l =
    in_handlers (map target_view l.left.items) ++ map target_view (reverse l.labels.items) ≡ in_handlers (map target_view l.fn.targets.items) ++ map target_view (reverse l.initial.labels.items)

abbrev pub decreases-loop-target : goal.decreases-loop-target
decreases-loop-target l = length l.left.items
