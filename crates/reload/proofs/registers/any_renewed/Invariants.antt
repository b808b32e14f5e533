use Rattle.std.proofs.Common.{◌≡◌, drop}
use Rattle.reload_rules.specs.Reloaded.{any_renewed}
use Rattle.reload.proofs.registers.any_renewed.Given as goal

abbrev pub invariant-loop-reg : goal.invariant-loop-reg
invariant-loop-reg l = any_renewed l.registers (drop l.reg-index l.regs) ≡ any_renewed l.registers l.regs
