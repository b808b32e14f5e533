use Rattle.std.proofs.Common.{◌≡◌, drop}
use Rattle.reload_rules.specs.Reloaded.{number_past}
use Rattle.reload.proofs.registers.number_past.Given as goal

abbrev pub invariant-loop-reg : goal.invariant-loop-reg
invariant-loop-reg l = number_past l.registers l.number (drop l.reg-index l.regs) ≡ number_past l.registers l.from l.regs
