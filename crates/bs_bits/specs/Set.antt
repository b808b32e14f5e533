-- Sets of numbers below a size: a list with a truth value for each number, whether it is a member.
--
-- A function from numbers would say the same, but no function can be the value of a Model.
use Rattle.std.specs.Prelude.{◌≡◌, ℕ, ◌<◌, ◌≤◌, Bool, true, false, ◌||◌, List, [], ◌∷◌, slice_index_or}

-- whether the number is a member; none from the size on is
abbrev pub has : List Bool → ℕ → Bool
has set k = slice_index_or set k false

-- the members of either, of the size of the first
abbrev pub union : List Bool → List Bool → List Bool
union [] others = []
union (x ∷ xs) [] = x ∷ xs
union (x ∷ xs) (y ∷ ys) = (x || y) ∷ union xs ys

-- some number is a new member
pub record Grew (old new : List Bool) : Type 0 where
  pub member : ℕ
  pub before : has old member ≡ false
  pub now : has new member ≡ true

-- no number from `from` on is a member
abbrev pub HasNoneFrom : List Bool → ℕ → Type 0
HasNoneFrom set from = (k : ℕ) → from ≤ k → has set k ≡ false

-- the least member that is not below `from`
pub record IsNext (set : List Bool) (from k : ℕ) : Type 0 where
  pub not_below : from ≤ k
  pub member : has set k ≡ true
  pub least : (j : ℕ) → from ≤ j → j < k → has set j ≡ false
