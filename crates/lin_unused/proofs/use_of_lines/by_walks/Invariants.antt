use Rattle.lin_unused.proofs.Flagged.{FlagsSoFar}
use Rattle.lin_unused.proofs.use_of_lines.by_walks.Given as goal

abbrev pub invariant-loop-place : goal.invariant-loop-place
invariant-loop-place l = FlagsSoFar l.lin l.flags.items l.place
