use Rattle.std.proofs.Common.{◌≡◌, ◌++◌, false, drop}
use Rattle.mach_ir.specs.Text.{regs_text}
use Rattle.mach_ir.proofs.page.Page.put_more.Given as goal

abbrev pub invariant-loop-reg : goal.invariant-loop-reg
invariant-loop-reg l =
    l.initial.self.bytes.items ++ regs_text false l.regs ≡ l.self.bytes.items ++ regs_text false (drop l.reg-index l.regs)
