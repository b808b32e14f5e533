use Rattle.std.proofs.Common.{◌≡◌, drop}
use Rattle.mach_ir.specs.Meaning.{is_at_one_of}
use Rattle.liveness.proofs.written.is_at_one_of.Given as goal

abbrev pub invariant-loop-reg : goal.invariant-loop-reg
invariant-loop-reg l = is_at_one_of l.place (drop l.reg-index l.regs) ≡ is_at_one_of l.place l.regs
