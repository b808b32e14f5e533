use Rattle.std.proofs.Common.{◌≡◌, ◌++◌, drop}
use Rattle.lin_laws.specs.Numbers.{val_numbers}
use Rattle.lin_flow.proofs.lines.reads_of.Given as goal

abbrev pub invariant-loop-spot : goal.invariant-loop-spot
invariant-loop-spot l = l.numbers.items ++ val_numbers (drop l.spot-index l.args) ≡ val_numbers l.args
