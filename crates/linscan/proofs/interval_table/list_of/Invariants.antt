use Rattle.linscan.specs.Listed.{AreRowsBelow}
use Rattle.linscan.proofs.interval_table.list_of.Given as goal

abbrev pub invariant-loop-register : goal.invariant-loop-register
invariant-loop-register l = AreRowsBelow l.ranges l.register l.list.items
