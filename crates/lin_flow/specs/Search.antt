-- Positions with their numbers, and which of them are at each place of the text.
use Rattle.std.specs.Prelude.{◌≡◌, ◌⊎◌, ℕ, suc, ◌<◌, List, [], ◌∷◌, Some, map, length, slice_get, slice_index_or, Contains}
use Rattle.mach_ir.specs.Sizes.{number_limit}
use Rattle.lin_laws.specs.declared.position.Position.{Position}
use Rattle.lin_flow.specs.declared.search.PositionGroup as group
use Rattle.lin_flow.specs.declared.search.Search.{Search}

abbrev pub all_positions : Search → List Position
all_positions s = s.positions.items

abbrev pub groups_of : Search → List group.PositionGroup
groups_of s = s.groups.items

-- the members of a group; past the last group there are none
abbrev pub search_members : List group.PositionGroup → ℕ → List ℕ
search_members groups p = slice_index_or (map (λ (g : group.PositionGroup). g.members.items) groups) p []

-- a number is in its group, and none was taken out
pub record HasMember (old new : List group.PositionGroup) (p member : ℕ) : Type 0 where
  pub len : length new ≡ length old
  pub kept : (j q : ℕ) → Contains (search_members old j) q → Contains (search_members new j) q
  pub here : Contains (search_members new p) member

-- each position is in the group of its place
pub record AreGrouped (s : Search) : Type 0 where
  pub grouped : (q : ℕ) (x : Position) → slice_get (all_positions s) q ≡ Some x →
      Contains (search_members (groups_of s) x.place) q

-- a number counts the positions
abbrev pub AreCountable : Search → Type 0
AreCountable s = length (all_positions s) < number_limit

-- Positions have come in, all of them among these. The others keep their numbers.
pub record Grown (old new : Search) (ys : List Position) : Type 0 where
  pub kept : (q : ℕ) (x : Position) → slice_get (all_positions old) q ≡ Some x →
      slice_get (all_positions new) q ≡ Some x
  pub fresh : (q : ℕ) (x : Position) → slice_get (all_positions new) q ≡ Some x →
      (slice_get (all_positions old) q ≡ Some x) ⊎ Contains ys x
  pub len : length (groups_of new) ≡ length (groups_of old)
  pub grouped : AreGrouped old → AreGrouped new
  pub countable : AreCountable old → AreCountable new

-- a position has this number
pub record PositionEntered (old new : Search) (y : Position) (number : ℕ) : Type 0 where
  pub grown : Grown old new (y ∷ [])
  pub here : slice_get (all_positions new) number ≡ Some y

-- no position yet, and a group for each place up to the last
pub record Starts (last : ℕ) (s : Search) : Type 0 where
  pub positions : all_positions s ≡ []
  pub len : length (groups_of s) ≡ suc last

-- the number is that of a position at the place
pub record IsThere (s : Search) (p q : ℕ) : Type 0 where
  pub found : Position
  pub is : slice_get (all_positions s) q ≡ Some found
  pub place : found.place ≡ p

-- one of the positions below this number is at the place
pub record HasFirst (s : Search) (p first : ℕ) : Type 0 where
  pub number : ℕ
  pub below : number < first
  pub there : IsThere s p number
