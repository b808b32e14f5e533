use Rattle.std.proofs.Common.{length}
use Rattle.walk_tables.proofs.items.Cells.+parameters_bound.Given as goal

abbrev pub decreases-parameters_bound : goal.decreases-parameters_bound
decreases-parameters_bound l = length l.params.now
