use Rattle.std.proofs.Common.{length}
use Rattle.lin_tidy.proofs.Rounds.{Round}
use Rattle.lin_tidy.proofs.tidying.tidy.Given as goal

abbrev pub invariant-loop-alloc : goal.invariant-loop-alloc
invariant-loop-alloc l = Round l.fn.lin l.now l.flags.items

abbrev pub decreases-loop-alloc : goal.decreases-loop-alloc
decreases-loop-alloc l = length l.now.code
