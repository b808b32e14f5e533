use Rattle.std.proofs.Common.{take}
use Rattle.split.specs.Writes.{IsGrouped}
use Rattle.split.proofs.writes.groups_of.Given as goal

abbrev pub invariant-loop-index : goal.invariant-loop-index
invariant-loop-index l = IsGrouped (take l.index l.writes) l.free l.groups.items
