use Rattle.frame_tables.specs.Points.{HasRoots}
use Rattle.frame_tables.proofs.after.enter_points.Given as goal

abbrev pub invariant-loop-place : goal.invariant-loop-place
invariant-loop-place l = HasRoots l.lin l.initial.search l.search l.reached l.place
