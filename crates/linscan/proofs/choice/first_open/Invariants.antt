use Rattle.std.proofs.Common.{◌≡◌, ◌≤◌, length, drop}
use Rattle.linscan_rules.specs.Scan.{first_without}
use Rattle.linscan.specs.Held.{is_shut}
use Rattle.linscan.proofs.choice.first_open.Given as goal

pub record First (Value Within : Type 0) : Type 0 where
  pub value : Value
  pub within : Within

abbrev pub invariant-loop-left : goal.invariant-loop-left
invariant-loop-left l = First
    (l.first ≡ first_without (is_shut l.active l.closed l.from) (drop l.left l.colours))
    (l.left ≤ length l.colours)

abbrev pub decreases-loop-left : goal.decreases-loop-left
decreases-loop-left l = l.left
