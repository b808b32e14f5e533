use Rattle.std.proofs.Common.{length}
use Rattle.walk_tables.proofs.items.Cells.+bodies.Given as goal

abbrev pub decreases-bodies : goal.decreases-bodies
decreases-bodies l = length l.cases.now
