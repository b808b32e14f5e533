use Rattle.std.proofs.Common.{length}
use Rattle.walk_tables.proofs.items.Cells.+fill.Given as goal

abbrev pub decreases-fill : goal.decreases-fill
decreases-fill l = length l.exprs.now
