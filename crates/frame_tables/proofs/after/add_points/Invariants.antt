use Rattle.frame_tables.specs.Points.{ArePoints}
use Rattle.lin_flow.specs.Search.{all_positions}
use Rattle.frame_tables.proofs.after.add_points.Given as goal

abbrev pub invariant-loop-place : goal.invariant-loop-place
invariant-loop-place l = ArePoints l.lin (all_positions l.search) l.nodes.items l.points.items l.place
