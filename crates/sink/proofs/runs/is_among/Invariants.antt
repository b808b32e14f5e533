use Rattle.std.proofs.Common.{◌≡◌, drop}
use Rattle.sink.specs.Runs.{is_among_registers}
use Rattle.sink.proofs.runs.is_among.Given as goal

abbrev pub invariant-loop-reg : goal.invariant-loop-reg
invariant-loop-reg l = is_among_registers l.number (drop l.reg-index l.regs) ≡ is_among_registers l.number l.regs
