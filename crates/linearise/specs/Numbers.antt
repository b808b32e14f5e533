-- Tables of the numbers that slots get.
use Rattle.std.specs.Prelude.{◌≡◌, ℕ, suc, ◌<◌, ◌≤◌, Bool, true, false, List, [], ◌∷◌, length, slice_index_or}
use Rattle.linearise_rules.specs.Lowered.{is_among_numbers, count_below, limit_above}

-- the number of a slot; one that the table does not have gets 0
abbrev pub number_of_slot : List ℕ → ℕ → ℕ
number_of_slot numbers k = slice_index_or numbers k 0

-- for each number below the limit of these slots, whether it is among them
pub record AreSlotFlags (slots : List ℕ) (flags : List Bool) : Type 0 where
  pub len : length flags ≡ limit_above slots
  pub same : (k : ℕ) → k < limit_above slots → slice_index_or flags k false ≡ is_among_numbers k slots

-- before each flag and after the last, this number and how many are set before it
abbrev pub running : ℕ → List Bool → List ℕ
running n [] = n ∷ []
running n (true ∷ flags) = n ∷ running (suc n) flags
running n (false ∷ flags) = n ∷ running n flags

-- a table that has, for each number up to the limit of these slots, how many of them are below it
pub record IsTable (slots numbers : List ℕ) : Type 0 where
  pub counts : (k : ℕ) → k ≤ limit_above slots → number_of_slot numbers k ≡ count_below slots k
