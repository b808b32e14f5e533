-- What visits of places and sweeps over all of them do to the sets, whatever the sets are to tell.
use Rattle.std.specs.Prelude.{◌≡◌, ℕ, suc, ◌<◌, Bool, true, false, List, [], ◌∷◌, length}
use Rattle.std.specs.List.{sum_by}
use Rattle.dataflow.specs.Rows.{HasSizes}

-- how many numbers are not members of a set
abbrev pub absent : List Bool → ℕ
absent [] = 0
absent (true ∷ set) = absent set
absent (false ∷ set) = suc (absent set)

-- how many numbers are not members, of all sets together
abbrev pub missing : List (List Bool) → ℕ
missing rows = sum_by absent rows

-- A visit of place p. `Sound` says that each member is right, and `Closed` that nothing is lacking at a place.
pub record VisitOf (Sound : List (List Bool) → Type 0) (Closed : List (List Bool) → ℕ → Type 0) (bound : ℕ)
    (old new : List (List Bool)) (p : ℕ) (grew : Bool) : Type 0 where
  pub len : length new ≡ length old
  pub sizes : HasSizes bound new
  pub sound : Sound old → Sound new
  pub same : grew ≡ false → (new ≡ old) × Closed old p
  pub fewer : grew ≡ true → missing new < missing old

-- a sweep over all places
pub record SweepOf (Sound : List (List Bool) → Type 0) (Closed : List (List Bool) → ℕ → Type 0) (bound : ℕ)
    (old new : List (List Bool)) (grew : Bool) : Type 0 where
  pub len : length new ≡ length old
  pub sizes : HasSizes bound new
  pub sound : Sound old → Sound new
  pub same : grew ≡ false → (new ≡ old) × ((p : ℕ) → p < length old → Closed old p)
  pub fewer : grew ≡ true → missing new < missing old
