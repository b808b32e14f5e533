use Rattle.std.proofs.Common.{◌≡◌, ◌++◌, take, drop}
use Rattle.colouring_rules.specs.Places.{all_placed, last_resort}
use Rattle.reg_rounds.proofs.slots.rest_each.Given as goal

abbrev pub invariant-loop-reg : goal.invariant-loop-reg
invariant-loop-reg l =
    take l.reg-index l.regs ++ all_placed last_resort (drop l.reg-index l.regs) ≡ all_placed last_resort l.initial.regs
