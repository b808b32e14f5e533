-- Which place linear scan chooses for each register whose place is open: for one after the other,
-- by where their intervals begin.
use Rattle.std.specs.Prelude.{ℕ, Bool, false, cond, ◌&&◌, ◌||◌, not, nat_lt, nat_le, List, [], ◌∷◌, Option, Some, None}
use Rattle.bs_words.specs.declared.types.Loc.{Loc}
use Rattle.bs_words.specs.declared.types.Loc.TheVariants as loc
use Rattle.mach_ir.specs.Placed.{Colouring}
use Rattle.colouring.specs.Chosen.{colouring_with, has_colour}

-- ---- rows

-- a register whose place is open, with its interval
pub record OpenInterval : Type 0 where
  pub number : ℕ
  pub origin : ℕ
  pub from : ℕ
  pub to : ℕ

-- the interval of a register whose place is fixed at a colour
pub record FixedInterval : Type 0 where
  pub colour : ℕ
  pub from : ℕ
  pub to : ℕ

-- ---- colours

-- Whether a colour is closed to a register, as one that the graph joins with it is fixed there. It
-- is asked of the graph and not of intervals: the operand of a call by a register has a place in
-- common with all that the call destroys, and is joined with none of it.
abbrev pub ClosedColours : Type 0
ClosedColours = OpenInterval → ℕ → Bool

-- whether an earlier one that has not ended holds the colour
abbrev pub is_held : Colouring → List OpenInterval → OpenInterval → ℕ → Bool
is_held place [] x c = false
is_held place (r ∷ rs) x c =
    (has_colour c (place r.number) && nat_le x.from r.to) || is_held place rs x c

-- the first colour for which the test fails
abbrev pub first_without : (ℕ → Bool) → List ℕ → Option ℕ
first_without test [] = None
first_without test (c ∷ cs) = cond (test c) (first_without test cs) (Some c)

-- ---- who gives up

-- an earlier one, with the colour that it would give
pub record Giver : Type 0 where
  pub row : OpenInterval
  pub colour : ℕ

-- one that has not ended gives the colour that it holds, where that is not closed to the other
abbrev pub giver_at : ClosedColours → OpenInterval → OpenInterval → Loc → Option Giver
giver_at closed x r loc.Unset = None
giver_at closed x r (loc.Slot n) = None
giver_at closed x r (loc.Machine c) =
    cond (nat_le x.from r.to && not (closed x c)) (Some (record { row = r; colour = c })) None

-- that of the two which ends last; where both end together, the first
abbrev pub ending_last : Option Giver → Option Giver → Option Giver
ending_last None o = o
ending_last (Some g) None = Some g
ending_last (Some g) (Some h) = cond (nat_lt g.row.to h.row.to) (Some h) (Some g)

-- of those that may give a colour, the one that ends last
abbrev pub last_giver : ClosedColours → Colouring → List OpenInterval → OpenInterval → Option Giver
last_giver closed place [] x = None
last_giver closed place (r ∷ rs) x =
    ending_last (giver_at closed x r (place r.number)) (last_giver closed place rs x)

-- ---- the choice

abbrev pub put_in_slot : Colouring → OpenInterval → Colouring
put_in_slot place x = colouring_with place x.number (loc.Slot x.origin)

-- the giver goes to its slot if it ends later, else this one does
abbrev pub given_up : Colouring → OpenInterval → Option Giver → Colouring
given_up place x None = put_in_slot place x
given_up place x (Some g) =
    cond (nat_lt x.to g.row.to)
    (colouring_with (put_in_slot place g.row) x.number (loc.Machine g.colour)) (put_in_slot place x)

-- a colour that is free, or else that of the one which ends last, this one counted
abbrev pub placed_next : ClosedColours → List OpenInterval → Colouring → OpenInterval → Option ℕ → Colouring
placed_next closed done place x None = given_up place x (last_giver closed place done x)
placed_next closed done place x (Some c) = colouring_with place x.number (loc.Machine c)

abbrev pub is_closed_or_held : ClosedColours → List OpenInterval → Colouring → OpenInterval → ℕ → Bool
is_closed_or_held closed done place x c = closed x c || is_held place done x c

abbrev pub scan_one : List ℕ → ClosedColours → List OpenInterval → Colouring → OpenInterval → Colouring
scan_one colours closed done place x =
    placed_next closed done place x (first_without (is_closed_or_held closed done place x) colours)

-- The places after those of these rows were chosen, the first one first. `done` are the rows
-- before, the last one first.
abbrev pub scanned : List ℕ → ClosedColours → List OpenInterval → Colouring → List OpenInterval → Colouring
scanned colours closed done place [] = place
scanned colours closed done place (x ∷ xs) =
    scanned colours closed (x ∷ done) (scan_one colours closed done place x) xs
