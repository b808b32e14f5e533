use Rattle.std.proofs.Common.{length}
use Rattle.walk_tables.proofs.items.Cells.+wait.Given as goal

abbrev pub decreases-wait : goal.decreases-wait
decreases-wait l = length l.exprs.now
