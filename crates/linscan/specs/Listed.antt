-- The ranges of a function's registers, and the intervals that come of them.
use Rattle.std.specs.Prelude.{◌≡◌, ℕ, ◌<◌, List, Some, AllPairs, Contains}
use Rattle.mach_ir.specs.declared.mach.Mach.{Mach}
use Rattle.linscan_rules.specs.Ranges.{IsAtPlace}
use Rattle.linscan_rules.specs.declared.interval.Interval.{Interval}
use Rattle.linscan.specs.Seen.{RangeTable, range_at, IsWithin, IsEnd}
use Rattle.linscan.specs.declared.ranges.Range.{Range}

-- the range of each number is the least that has the places of its register
pub record AreRangesOf (m : Mach) (t : RangeTable) : Type 0 where
  pub sound : (n p : ℕ) → IsEnd t n p → IsAtPlace m n p
  pub whole : (n p : ℕ) → IsAtPlace m n p → IsWithin t n p

-- the intervals of the numbers below a bound that have ranges, rising
pub record AreRowsBelow (t : RangeTable) (bound : ℕ) (list : List Interval) : Type 0 where
  pub order : AllPairs (λ (x y : Interval). x.register < y.register) list
  pub sound : (x : Interval) → Contains list x →
      (x.register < bound) × (range_at t x.register ≡ Some (record { from = x.from; to = x.to }))
  pub whole : (n : ℕ) (r : Range) → n < bound → range_at t n ≡ Some r →
      Contains list (record { register = n; from = r.from; to = r.to })
