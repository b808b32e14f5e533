use Rattle.std.proofs.Common.{vec_len}
use Rattle.schedule.proofs.Backward.{AreRanked}
use Rattle.schedule.proofs.order.ranked.Given as goal

abbrev pub invariant-loop-line : goal.invariant-loop-line
invariant-loop-line l = AreRanked l.initial.run.items l.run.items l.later l.lines.items

abbrev pub decreases-loop-line : goal.decreases-loop-line
decreases-loop-line l = vec_len l.run
