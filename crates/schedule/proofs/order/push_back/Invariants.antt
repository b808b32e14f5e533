use Rattle.std.proofs.Common.{◌≡◌, ◌++◌, vec_len}
use Rattle.schedule.specs.Order.{lines_back}
use Rattle.schedule.proofs.order.push_back.Given as goal

abbrev pub invariant-loop-next : goal.invariant-loop-next
invariant-loop-next l = l.made.items ++ lines_back l.lines.items ≡ l.initial.made.items ++ lines_back l.initial.lines.items

abbrev pub decreases-loop-next : goal.decreases-loop-next
decreases-loop-next l = vec_len l.lines
