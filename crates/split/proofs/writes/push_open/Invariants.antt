use Rattle.std.proofs.Common.{◌≡◌, ◌++◌, drop}
use Rattle.split_rules.specs.Order.{open_writes}
use Rattle.split.proofs.writes.push_open.Given as goal

abbrev pub invariant-loop-reg : goal.invariant-loop-reg
invariant-loop-reg l =
    l.writes.items ++ open_writes l.left (drop l.reg-index l.regs) ≡ l.initial.writes.items ++ open_writes l.left l.regs
