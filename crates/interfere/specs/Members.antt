-- The members of a set, as a list.
use Rattle.std.specs.Prelude.{◌≡◌, ◌↔◌, ℕ, ◌<◌, Bool, true, List, AllPairs, Contains}
use Rattle.bs_bits.specs.Set.{has}

-- all members of a set, rising
pub record AreMembers (set : List Bool) (members : List ℕ) : Type 0 where
  pub sorted : AllPairs ◌<◌ members
  pub each : (k : ℕ) → Contains members k ↔ (has set k ≡ true)
