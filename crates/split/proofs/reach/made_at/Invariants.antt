use Rattle.std.proofs.Common.{◌≡◌, ◌++◌, drop}
use Rattle.split.specs.Reach.{made_at}
use Rattle.split.proofs.reach.made_at.Given as goal

abbrev pub invariant-loop-reg : goal.invariant-loop-reg
invariant-loop-reg l = l.found.items ++ made_at l.writes l.left (drop l.reg-index l.regs) ≡ made_at l.writes l.left l.regs
