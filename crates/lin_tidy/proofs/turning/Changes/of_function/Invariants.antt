use Rattle.std.proofs.Common.{◌≤◌, drop, length}
use Rattle.lin_tidy.specs.Loops.{AreChanges}
use Rattle.lin_tidy.proofs.turning.Changes.of_function.Given as goal

abbrev pub invariant-loop-place : goal.invariant-loop-place
invariant-loop-place l = record {
  within : l.place ≤ length l.lin.code;
  so_far : AreChanges l.lin l.free (drop l.place l.lin.code) l.changes;
}

abbrev pub decreases-loop-place : goal.decreases-loop-place
decreases-loop-place l = l.place
