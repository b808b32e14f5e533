-- Files of locations: one that a location was written in, and one that holds less.
use Rattle.std.specs.Prelude.{◌≡◌, ◌⊎◌, Option, Some}
use Rattle.bs_words.specs.declared.types.Loc.{Loc}
use Rattle.bs_words.specs.declared.values.Value.{Value}

-- what holds more holds whatever the other one does
pub record HoldsLess (less more : Loc → Option Value) : Type 0 where
  pub each : (k : Loc) (y : Value) → less k ≡ Some y → more k ≡ Some y

-- one location holds this value now, and no other one holds anything new
pub record IsPut (l : Loc) (x : Value) (old new : Loc → Option Value) : Type 0 where
  pub each : (k : Loc) (y : Value) → new k ≡ Some y →
      ((k ≡ l) × (y ≡ x)) ⊎ ((k ≡ l → ⊥) × (old k ≡ Some y))
