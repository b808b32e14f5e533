use Rattle.std.proofs.Common.{◌≡◌, ◌++◌, drop}
use Rattle.reload_rules.specs.Reloaded.{number_past, renewed}
use Rattle.reload.proofs.registers.renewed.Given as goal

abbrev pub invariant-loop-reg : goal.invariant-loop-reg
invariant-loop-reg l =
    record {
      made : l.made.items ++ renewed l.registers l.number (drop l.reg-index l.regs) ≡ renewed l.registers l.from l.regs;
      number : number_past l.registers l.number (drop l.reg-index l.regs) ≡ number_past l.registers l.from l.regs;
    }
