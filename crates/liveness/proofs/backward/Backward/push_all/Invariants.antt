use Rattle.std.proofs.Common.{◌≡◌, ◌++◌, length}
use Rattle.liveness.proofs.backward.Backward.push_all.Given as goal

abbrev pub invariant-loop-item : goal.invariant-loop-item
invariant-loop-item g l = l.left.items ++ l.self ≡ l.fn.items.items ++ l.initial.self

abbrev pub decreases-loop-item : goal.decreases-loop-item
decreases-loop-item g l = length l.left.items
