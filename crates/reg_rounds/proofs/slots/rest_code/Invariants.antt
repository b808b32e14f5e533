use Rattle.std.proofs.Common.{◌≡◌}
use Rattle.colouring_rules.specs.Places.{placed_code, last_resort}
use Rattle.reg_rounds.proofs.slots.rest_code.Given as goal

abbrev pub invariant-loop-instr : goal.invariant-loop-instr
invariant-loop-instr l = l.rested.items ≡ placed_code last_resort l.yielded
