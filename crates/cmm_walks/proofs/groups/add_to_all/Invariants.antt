use Rattle.std.proofs.Common.{take}
use Rattle.cmm_walks.proofs.Grouped.{AddingToAll}
use Rattle.cmm_walks.proofs.groups.add_to_all.Given as goal

abbrev pub invariant-loop-k : goal.invariant-loop-k
invariant-loop-k l = AddingToAll l.initial.groups.items l.groups.items l.member (take l.k-index l.targets)
