use Rattle.std.proofs.Common.{◌≡◌, map}
use Rattle.lin_tidy_rules.specs.Redirecting.{redirect}
use Rattle.lin_tidy.specs.Targets.{target_in, exit_in}
use Rattle.lin_tidy.proofs.redirecting.Targets.redirect_code.Given as goal

abbrev pub invariant-loop-line : goal.invariant-loop-line
invariant-loop-line l = l.turned.items ≡ map (redirect (target_in l.self) (exit_in l.self)) l.yielded
