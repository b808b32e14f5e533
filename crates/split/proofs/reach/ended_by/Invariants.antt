use Rattle.std.proofs.Common.{◌≡◌, ◌++◌, drop}
use Rattle.split.specs.Reach.{ended_by}
use Rattle.split.proofs.reach.ended_by.Given as goal

abbrev pub invariant-loop-reg : goal.invariant-loop-reg
invariant-loop-reg l = l.found.items ++ ended_by l.writes (drop l.reg-index l.regs) ≡ ended_by l.writes l.regs
