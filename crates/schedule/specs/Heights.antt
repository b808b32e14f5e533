-- The greatest heights of later lines, by what they do.
use Rattle.std.specs.Prelude.{◌≡◌, ℕ, ◌+◌, ◌*◌, Bool, cond, max, List, [], ◌∷◌, Option, Some, None}
use Rattle.std.specs.Option.{unwrap_or}
use Rattle.std.specs.BTreeMap as tree
use Rattle.std.specs.Ordering.{nat_cmp}
use Rattle.bs_words.specs.declared.types.Loc.{Loc}
use Rattle.bs_words.specs.declared.types.Loc.TheVariants as loc
use Rattle.lin_ir.specs.declared.lin.Spot.{Spot}
use Rattle.lin_ir.specs.declared.lin.Line.{Line}
use Rattle.schedule_rules.specs.Straight.{is_among_spots, is_access, is_store, Ranked}
use Rattle.schedule.specs.declared.heights.Heights.{Heights}
use Rattle.schedule.specs.declared.heights.Later.{Later}

-- ---- tables by location

-- registers have even numbers, slots odd ones
abbrev pub number_of : Loc → Option ℕ
number_of loc.Unset = None
number_of (loc.Machine r) = Some (2 * r)
number_of (loc.Slot s) = Some (2 * s + 1)

abbrev pub height_of_number : Heights → ℕ → ℕ
height_of_number t n = unwrap_or (tree.get nat_cmp t.by_number n) 0

abbrev pub height_by : Heights → Option ℕ → ℕ
height_by t None = 0
height_by t (Some n) = height_of_number t n

-- 0 where nothing is known of the location
abbrev pub height_at : Heights → Loc → ℕ
height_at t l = height_by t (number_of l)

abbrev pub greatest_at : Heights → List Spot → ℕ
greatest_at t [] = 0
greatest_at t (s ∷ ss) = max (height_at t s.loc) (greatest_at t ss)

-- ---- lines

abbrev pub ranked_as : Line → ℕ → Ranked
ranked_as i height = record { line = i; height = height }

-- the greatest height of those that pass a test, 0 where none does
abbrev pub highest_by : (Line → Bool) → List Ranked → ℕ
highest_by p [] = 0
highest_by p (r ∷ rs) = max (cond (p r.line) r.height 0) (highest_by p rs)

-- what is known of these lines
pub record IsLater (rs : List Ranked) (later : Later) : Type 0 where
  pub read : (l : Loc) → height_at later.read l ≡ highest_by (λ i. is_among_spots l i.args) rs
  pub written : (l : Loc) → height_at later.written l ≡ highest_by (λ i. is_among_spots l i.results) rs
  pub access : later.access ≡ highest_by (λ i. is_access i.op) rs
  pub store : later.store ≡ highest_by (λ i. is_store i.op) rs
