use Rattle.lin_unused.proofs.Between.{SameFrom}
use Rattle.lin_unused.proofs.use_of_lines.labels_between.Given as goal

abbrev pub invariant-loop-place : goal.invariant-loop-place
invariant-loop-place l = SameFrom l.code l.from l.place l.to
