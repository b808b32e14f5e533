use Rattle.std.proofs.Common.{◌≡◌, ◌++◌, drop}
use Rattle.reload_rules.specs.Reloaded.{number_past, spills}
use Rattle.reload.proofs.registers.push_spills.Given as goal

abbrev pub invariant-loop-reg : goal.invariant-loop-reg
invariant-loop-reg l =
    record {
      code : l.code.items ++ spills l.registers l.number (drop l.reg-index l.regs)
          ≡ l.initial.code.items ++ spills l.registers l.from l.regs;
      number : number_past l.registers l.number (drop l.reg-index l.regs) ≡ number_past l.registers l.from l.regs;
    }
