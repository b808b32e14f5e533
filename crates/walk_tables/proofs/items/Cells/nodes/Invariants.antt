use Rattle.std.proofs.Common.{◌-◌, length}
use Rattle.walk_tables.specs.Cells.{cells}
use Rattle.walk_tables.specs.Made.{Filled}
use Rattle.walk_tables.proofs.items.Cells.nodes.Given as goal

-- each cell before this one has its node
abbrev pub invariant-loop-item : goal.invariant-loop-item
invariant-loop-item l = Filled (cells l.fn.self) (cells l.self) l.nodes.items (length l.nodes.items)

-- nodes have numbers of 64 bits
abbrev pub decreases-loop-item : goal.decreases-loop-item
decreases-loop-item l = 18446744073709551616 - length l.nodes.items
