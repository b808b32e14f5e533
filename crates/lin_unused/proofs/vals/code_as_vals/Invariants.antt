use Rattle.std.proofs.Common.{◌≡◌, ◌++◌, map, drop}
use Rattle.lin_tidy_rules.specs.Vals.{line_as_vals}
use Rattle.lin_unused.proofs.vals.code_as_vals.Given as goal

abbrev pub invariant-loop-line : goal.invariant-loop-line
invariant-loop-line l = l.made.items ++ map line_as_vals (drop l.line-index l.code) ≡ map line_as_vals l.code
