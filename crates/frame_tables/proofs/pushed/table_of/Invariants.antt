use Rattle.frame_tables.specs.Pushed.{AreTabled}
use Rattle.frame_tables.proofs.pushed.table_of.Given as goal

abbrev pub invariant-loop-position : goal.invariant-loop-position
invariant-loop-position l = AreTabled l.lin l.positions l.position-index l.traps.items
