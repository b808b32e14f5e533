use Rattle.std.proofs.Common.{take}
use Rattle.interfere.specs.Pairs.{AddsPairs, ForOne, MeetsSet}
use Rattle.interfere.proofs.joining.join_set.Given as goal

abbrev pub invariant-loop-number : goal.invariant-loop-number
invariant-loop-number l = AddsPairs l.initial.joined l.joined (ForOne (MeetsSet l.moved l.set) (take l.number-index l.numbers))
