use Rattle.std.proofs.Common.{◌≡◌, ◌≤◌, length, drop}
use Rattle.std.specs.List.{filter}
use Rattle.colouring.specs.Chosen.{first_best}
use Rattle.colouring.specs.Tables.{merit_by, free_by}
use Rattle.colouring.proofs.tallies.Tallies.best.Given as goal

pub record Best (Value Within : Type 0) : Type 0 where
  pub value : Value
  pub within : Within

abbrev pub invariant-loop-left : goal.invariant-loop-left
invariant-loop-left l = Best
    (l.best ≡ first_best (merit_by l.self) (filter (free_by l.self) (drop l.left l.colours)))
    (l.left ≤ length l.colours)

abbrev pub decreases-loop-left : goal.decreases-loop-left
decreases-loop-left l = l.left
