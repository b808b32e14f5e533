use Rattle.std.proofs.Common.{◌≡◌, ◌≤◌, length, drop}
use Rattle.linscan.specs.Held.{last_holder}
use Rattle.linscan.proofs.choice.last_holder.Given as goal

pub record Last (Value Within : Type 0) : Type 0 where
  pub value : Value
  pub within : Within

abbrev pub invariant-loop-left : goal.invariant-loop-left
invariant-loop-left l = Last
    (l.last ≡ last_holder l.active l.closed l.from (drop l.left l.colours))
    (l.left ≤ length l.colours)

abbrev pub decreases-loop-left : goal.decreases-loop-left
decreases-loop-left l = l.left
