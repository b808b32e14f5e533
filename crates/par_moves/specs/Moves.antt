-- What moves that are done one after the other do to the values that places hold.
use Rattle.std.specs.Prelude.{◌≡◌, ◌≢◌, ◌+◌, ◌≤◌, ◌==◌, ◌⊎◌, Bool, true, false, cond, List, [], ◌∷◌, ◌++◌, map, length, All, AllPairs, Contains}
use Rattle.bs_words.specs.declared.types.Loc.{Loc}
use Rattle.bs_words.specs.declared.types.Loc.TheVariants.{Unset, Machine, Slot}
use Rattle.rv_isa.specs.Registers.{t0}
use Rattle.par_moves.specs.declared.moves.Move.{Move}

abbrev pub Moves : Type 0
Moves = List Move

-- t0
abbrev pub spare : Loc
spare = Machine t0

-- whether two places are one
abbrev pub same_place : Loc → Loc → Bool
same_place Unset Unset = true
same_place (Machine a) (Machine b) = a == b
same_place (Slot a) (Slot b) = a == b
same_place _ _ = false

-- what the places hold after one move
abbrev pub moved : {A : Type 0} → Move → (Loc → A) → Loc → A
moved m held place = cond (same_place place m.to) (held m.from) (held place)

-- what the places hold after all of them, the first one first
abbrev pub after_moves : {A : Type 0} → Moves → (Loc → A) → Loc → A
after_moves [] held = held
after_moves (m ∷ ms) held = after_moves ms (moved m held)

-- Where a value that a place holds after the moves was before them: the moves are done where each
-- place holds its own name. Any other values go the same way.
abbrev pub origin : Moves → Loc → Loc
origin done = after_moves done (λ place. place)

-- Each target holds what its source held, and no other place but t0 holds another value than before.
pub record LeavesSources (moves done : Moves) : Type 0 where
  pub targets : All (λ m. origin done m.to ≡ m.from) moves
  pub others : (place : Loc) → place ≢ spare → All (λ m. m.to ≢ place) moves → origin done place ≡ place

-- ---- which moves are made

-- those that are not from a place to itself
abbrev pub needed : Moves → Moves
needed [] = []
needed (m ∷ ms) = cond (same_place m.from m.to) (needed ms) (m ∷ needed ms)

-- a move's value into t0, with the component with which it is read from there
abbrev pub saved : Move → Move
saved m = record m { to = spare }

-- the move with t0 for its source
abbrev pub from_spare : Move → Move
from_spare m = record m { from = spare }

-- A move that is made for one that is needed: that move, or one of its halves through t0. So it has
-- that move's component.
pub record IsMadeFor (moves : Moves) (made : Move) : Type 0 where
  pub planned : Move
  pub among : Contains (needed moves) planned
  pub same : (made ≡ planned) ⊎ ((made ≡ from_spare planned) ⊎ (made ≡ saved planned))

-- ---- how many

abbrev pub first_target : Moves → Loc → Loc
first_target [] end = end
first_target (m ∷ ms) end = m.to

-- each move reads the target of the next one, and the last reads the given place
abbrev pub ReadsOn : Moves → Loc → Type 0
ReadsOn [] end = Unit
ReadsOn (m ∷ ms) end = (m.from ≡ first_target ms end) × ReadsOn ms end

-- each move reads the target of the next one, and the last that of the first
abbrev pub IsCycle : Moves → Type 0
IsCycle [] = ⊥
IsCycle (m ∷ ms) = ReadsOn (m ∷ ms) m.to

abbrev pub joined_moves : List Moves → Moves
joined_moves [] = []
joined_moves (c ∷ cs) = c ++ joined_moves cs

-- There are cycles of needed moves, no two of which share a target, and at most so many moves more
-- are made than are needed.
pub record OneMoreForEachCycle (moves done : Moves) : Type 0 where
  pub cycles : List Moves
  pub each : All IsCycle cycles
  pub among : All (Contains (needed moves)) (joined_moves cycles)
  pub apart : AllPairs (λ a b. a.to ≢ b.to) (joined_moves cycles)
  pub few : length done ≤ length (needed moves) + length cycles

-- ---- what they read

-- Each move reads one of the places known, or one that a move before it wrote.
abbrev pub ReadsKnown : List Loc → Moves → Type 0
ReadsKnown known [] = Unit
ReadsKnown known (m ∷ ms) = Contains known m.from × ReadsKnown (m.to ∷ known) ms

-- each move reads a source, or what an earlier move wrote, t0 included
abbrev pub ReadsSources : Moves → Moves → Type 0
ReadsSources moves done = ReadsKnown (map (λ m. m.from) moves) done
