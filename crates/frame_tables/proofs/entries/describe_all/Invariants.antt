use Rattle.frame_tables.proofs.Bounds.{Describing}
use Rattle.frame_tables.proofs.entries.describe_all.Given as goal

abbrev pub invariant-loop-k : goal.invariant-loop-k
invariant-loop-k l = Describing l.frame l.first l.points l.live.rows.items l.k l.descrs.items
