use Rattle.lin_tidy.proofs.Leading.{TargetsSoFar}
use Rattle.lin_tidy.proofs.redirecting.Targets.of_function.Given as goal

abbrev pub invariant-loop-line : goal.invariant-loop-line
invariant-loop-line l = TargetsSoFar l.lin l.targets l.line-index
