-- Addresses that are used after a frame point that they were bound before.
use Rattle.std.specs.Prelude.{◌≡◌, ℕ, ◌≤◌, ◌<◌, ◌⊎◌, true, List, [], ◌∷◌, ◌++◌, Contains, Bool}
use Rattle.cmm_tree.specs.Tree.{FunctionTree, FileTree, functions}
use Rattle.walk_tables.specs.Walks.{Event, Binds, Uses, Passes, IsWalkOf}

-- nothing is bound to the slot in these events
abbrev pub Unbound : ℕ → List Event → Type 0
Unbound slot events = (address : Bool) (at : ℕ) → Contains events (Binds slot address at) → ⊥

-- A walk of the function binds an address, passes a frame point, and then uses the address, with no binding
-- between.
pub record IsLiveIn (f : FunctionTree) (bound point used : ℕ) : Type 0 where
  pub slot : ℕ
  pub before : List Event
  pub until_point : List Event
  pub until_use : List Event
  pub walk : IsWalkOf f
      (before ++ Binds slot true bound ∷
      (until_point ++ Passes point ∷ (until_use ++ Uses slot used ∷ [])))
  pub kept_until_point : Unbound slot until_point
  pub kept_until_use : Unbound slot until_use

-- in some function of the file
pub record IsLive (file : FileTree) (bound point used : ℕ) : Type 0 where
  pub f : FunctionTree
  pub of_file : Contains (functions file) f
  pub live : IsLiveIn f bound point used

-- the first of two comes before the second, or is the same: by the use, then by the frame point, then by the binding
abbrev pub Before : ℕ → ℕ → ℕ → ℕ → ℕ → ℕ → Type 0
Before bound point used bound' point' used' =
    (used < used') ⊎ (((used ≡ used') × (point < point')) ⊎
    ((used ≡ used') × (point ≡ point') × (bound ≤ bound')))

-- The address that is reported: no other comes before it.
pub record IsToldLive (file : FileTree) (bound point used : ℕ) : Type 0 where
  pub live : IsLive file bound point used
  pub least : (b p u : ℕ) → IsLive file b p u → Before bound point used b p u
