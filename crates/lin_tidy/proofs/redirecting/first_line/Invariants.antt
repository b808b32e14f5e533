use Rattle.std.proofs.Common.{◌≡◌, drop}
use Rattle.lin_tidy.specs.Targets.{first_line}
use Rattle.lin_tidy.proofs.redirecting.first_line.Given as goal

abbrev pub invariant-loop-at : goal.invariant-loop-at
invariant-loop-at l = first_line (drop l.at l.code) ≡ first_line (drop l.place l.code)
