use Rattle.lin_unused.proofs.Flagged.{NoMoveSoFar}
use Rattle.lin_unused.proofs.leaving.no_move_goes.Given as goal

abbrev pub invariant-loop-place : goal.invariant-loop-place
invariant-loop-place l = NoMoveSoFar l.flags l.code l.place
