use Rattle.std.proofs.Common.{◌+◌}
use Rattle.walk_tables.proofs.items.Cells.+exit.Given as goal

abbrev pub decreases-exit : goal.decreases-exit
decreases-exit l = l.cell + l.cell + l.cell + 2

abbrev pub decreases-exit_in : goal.decreases-exit_in
decreases-exit_in l = l.cell + l.cell + l.cell + 1

abbrev pub decreases-exit_behind : goal.decreases-exit_behind
decreases-exit_behind l = l.cell + l.cell + l.cell
