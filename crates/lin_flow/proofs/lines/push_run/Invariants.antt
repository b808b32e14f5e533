use Rattle.std.proofs.Common.{◌≡◌, ◌++◌}
use Rattle.lin_laws.specs.Numbers.{consecutive_from}
use Rattle.lin_flow.proofs.lines.push_run.Given as goal

abbrev pub invariant-loop-k : goal.invariant-loop-k
invariant-loop-k l = l.numbers.items ≡ l.initial.numbers.items ++ consecutive_from l.first l.k
