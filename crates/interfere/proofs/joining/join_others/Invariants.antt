use Rattle.std.proofs.Common.{take}
use Rattle.interfere.specs.Pairs.{AddsPairs, ForOne, Meeting}
use Rattle.interfere.proofs.joining.join_others.Given as goal

abbrev pub invariant-loop-other : goal.invariant-loop-other
invariant-loop-other l = AddsPairs l.initial.joined l.joined (ForOne (Meeting l.moved l.number) (take l.other-index l.others))
