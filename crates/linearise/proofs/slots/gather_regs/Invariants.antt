use Rattle.std.proofs.Common.{◌≡◌, ◌++◌, [], drop}
use Rattle.linearise_rules.specs.Lowered.{slots_of_regs}
use Rattle.linearise.proofs.slots.gather_regs.Given as goal

abbrev pub invariant-loop-reg : goal.invariant-loop-reg
invariant-loop-reg l = l.slots.items ++ slots_of_regs (drop l.reg-index l.regs) [] ≡ l.initial.slots.items ++ slots_of_regs l.regs []
