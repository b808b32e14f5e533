use Rattle.std.proofs.Common.{◌+◌}
use Rattle.walk_tables.proofs.items.Cells.+raise.Given as goal

abbrev pub decreases-raise : goal.decreases-raise
decreases-raise l = l.cell + l.cell + l.cell + 2

abbrev pub decreases-raise_in : goal.decreases-raise_in
decreases-raise_in l = l.cell + l.cell + l.cell + 1

abbrev pub decreases-raise_behind : goal.decreases-raise_behind
decreases-raise_behind l = l.cell + l.cell + l.cell
