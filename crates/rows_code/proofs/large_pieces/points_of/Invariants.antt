use Rattle.std.proofs.Common.{◌-◌, ◌≤◌}
use Rattle.rows_code.specs.Points.{ArePointPieces}
use Rattle.rows_code.proofs.large_pieces.points_of.Given as goal

abbrev pub invariant-loop-made : goal.invariant-loop-made
invariant-loop-made l = ArePointPieces l.made l.code.items × (l.made ≤ l.points)

abbrev pub decreases-loop-made : goal.decreases-loop-made
decreases-loop-made l = l.points - l.made
