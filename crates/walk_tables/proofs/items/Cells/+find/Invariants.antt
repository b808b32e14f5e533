use Rattle.std.proofs.Common.{◌+◌}
use Rattle.walk_tables.proofs.items.Cells.+find.Given as goal

abbrev pub decreases-find : goal.decreases-find
decreases-find l = l.scope + l.scope + 1

abbrev pub decreases-find_in : goal.decreases-find_in
decreases-find_in l = l.scope + l.scope
