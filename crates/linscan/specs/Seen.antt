-- Where registers are seen, as a table of ranges by number.
use Rattle.std.specs.Prelude.{◌≡◌, ◌⊎◌, ℕ, ◌<◌, ◌≤◌, min, max, Bool, true, List, Option, Some, None, slice_index_or, length, Contains}
use Rattle.bs_bits.specs.Set.{has}
use Rattle.bs_words.specs.Contents.{contents}
use Rattle.dataflow.specs.Rows.{set_in_row}
use Rattle.dataflow.specs.declared.flow.Place as place
use Rattle.linscan.specs.declared.ranges.Range.{Range}

abbrev pub RangeTable : Type 0
RangeTable = List (Option Range)

abbrev pub range_at : RangeTable → ℕ → Option Range
range_at t n = slice_index_or t n None

-- the least range that has a place and those of the range
abbrev pub widened : Option Range → ℕ → Range
widened None p = record { from = p; to = p }
widened (Some r) p = record { from = min r.from p; to = max r.to p }

-- the range of a number has a place
pub record IsWithin (t : RangeTable) (n p : ℕ) : Type 0 where
  pub range : Range
  pub there : range_at t n ≡ Some range
  pub from : range.from ≤ p
  pub to : p ≤ range.to

-- the range of a number begins or ends at a place
pub data IsEnd (t : RangeTable) (n p : ℕ) : Type 0 where
  begins : (range : Range) → range_at t n ≡ Some range → range.from ≡ p → IsEnd t n p
  ends : (range : Range) → range_at t n ≡ Some range → range.to ≡ p → IsEnd t n p

-- Numbers were seen at places. Their ranges have these places, and no range grew further.
pub record Widens (old new : RangeTable) (Sight : ℕ → ℕ → Type 0) : Type 0 where
  pub len : length new ≡ length old
  pub kept : (n p : ℕ) → IsWithin old n p → IsWithin new n p
  pub sound : (n p : ℕ) → IsEnd new n p → IsEnd old n p ⊎ Sight n p
  pub whole : (n p : ℕ) → Sight n p → IsWithin new n p

-- ---- what is seen

-- one number at one place
pub record IsSight (k at n p : ℕ) : Type 0 where
  pub number : k ≡ n
  pub place : at ≡ p

-- these numbers
pub record AreSights (numbers : List ℕ) (at n p : ℕ) : Type 0 where
  pub among : Contains numbers n
  pub place : at ≡ p

-- the members of a set
pub record AreMembersSeen (set : List Bool) (at n p : ℕ) : Type 0 where
  pub member : has set n ≡ true
  pub place : at ≡ p

-- what is live at one of these places, seen at a place from which control goes there
pub record SeenAfter (rows : List (List Bool)) (next : List ℕ) (at n p : ℕ) : Type 0 where
  pub after : ℕ
  pub among : Contains next after
  pub live : has (set_in_row rows after) n ≡ true
  pub place : at ≡ p

-- what is seen at a place: what it reads and writes, and what is live before and after
pub data IsSeen (node : place.Place) (rows : List (List Bool)) (at n p : ℕ) : Type 0 where
  is_read : AreSights (contents node.reads) at n p → IsSeen node rows at n p
  is_written : AreSights (contents node.writes) at n p → IsSeen node rows at n p
  is_live : AreMembersSeen (set_in_row rows at) at n p → IsSeen node rows at n p
  is_live_after : SeenAfter rows (contents node.next) at n p → IsSeen node rows at n p

-- all that is live anywhere is below this number
abbrev pub AreBelow : ℕ → List (List Bool) → Type 0
AreBelow bound rows = (p k : ℕ) → has (set_in_row rows p) k ≡ true → k < bound
