use Rattle.std.proofs.Common.{length}
use Rattle.walk_tables.proofs.items.Cells.+in_order.Given as goal

abbrev pub decreases-in_order : goal.decreases-in_order
decreases-in_order l = length l.exprs.now
