-- A set of numbers for each place.
use Rattle.std.specs.Prelude.{◌≡◌, ℕ, Bool, List, [], slice_index_or, length}
use Rattle.std.specs.List.{All}

-- the set of a place; past the last place it is empty
abbrev pub set_in_row : List (List Bool) → ℕ → List Bool
set_in_row rows p = slice_index_or rows p []

-- each set is one of numbers below `bound`
abbrev pub HasSizes : ℕ → List (List Bool) → Type 0
HasSizes bound rows = All (λ set. length set ≡ bound) rows
