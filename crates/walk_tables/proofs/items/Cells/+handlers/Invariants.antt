use Rattle.std.proofs.Common.{length}
use Rattle.walk_tables.proofs.items.Cells.+handlers.Given as goal

abbrev pub decreases-handlers : goal.decreases-handlers
decreases-handlers l = length l.left.now
