use Rattle.std.proofs.Common.{◌≡◌, ◌-◌, length}
use Rattle.lin_tidy_rules.specs.Redirecting.{followed, final_label}
use Rattle.lin_tidy.proofs.redirecting.last_label.Given as goal

abbrev pub invariant-loop-line : goal.invariant-loop-line
invariant-loop-line l = followed l.lin (length l.lin.code - l._line) l.last ≡ final_label l.lin l.fn.label
