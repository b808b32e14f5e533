use Rattle.std.proofs.Common.{◌≡◌, ◌++◌, drop}
use Rattle.linearise_rules.specs.Lowered.{spots}
use Rattle.linearise.specs.Numbers.{number_of_slot}
use Rattle.linearise.proofs.spots.spots.Given as goal

abbrev pub invariant-loop-reg : goal.invariant-loop-reg
invariant-loop-reg l = l.made.items ++ spots (number_of_slot l.numbers) (drop l.reg-index l.regs) ≡ spots (number_of_slot l.numbers) l.regs
