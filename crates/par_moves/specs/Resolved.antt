-- The sequence that is made of moves that are meant to happen at once.
--
-- A walk goes from a move to a pending move that reads its target, and from there on. Where nothing
-- reads the last target any more, the last move is made. A walk that comes back to the source of its
-- first move, the root, has found a cycle: the root's value goes to t0 first, and the root reads t0.
--
-- T0 has the component with which it is read out again, and moves that read t0 are made first. A place that
-- is unset is a place like any other.
use Rattle.std.specs.Prelude.{ℕ, zero, suc, ◌+◌, cond, List, [], ◌∷◌, ◌++◌, length, Option, Some, None}
use Rattle.bs_words.specs.declared.types.Loc.{Loc}
use Rattle.par_moves.specs.declared.moves.Move.{Move}
use Rattle.par_moves.specs.Moves.{same_place, spare, saved, from_spare}

-- ---- the moves that are still to be made, the next one first

abbrev pub added : Move → List Move → List Move
added m pending = cond (same_place m.from m.to) pending (m ∷ pending)

-- the moves to be made, the last one first
abbrev pub gathered : List Move → List Move → List Move
gathered [] pending = pending
gathered (m ∷ ms) pending = gathered ms (added m pending)

abbrev pub first_reader : Loc → List Move → Option Move
first_reader place [] = None
first_reader place (m ∷ ms) = cond (same_place m.from place) (Some m) (first_reader place ms)

-- all but the first that reads the place
abbrev pub others : Loc → List Move → List Move
others place [] = []
others place (m ∷ ms) = cond (same_place m.from place) ms (m ∷ others place ms)

-- ---- one walk

-- the moves that were made, and those still pending
pub record MovesMade : Type 0 where
  pub made : List Move
  pub left : List Move

abbrev pub then_made : List Move → MovesMade → MovesMade
then_made first rest = record { made = first ++ rest.made; left = rest.left }

-- the target of the last move of a walk from a root along a path, whose last move is first
abbrev pub top_target : Move → List Move → Loc
top_target root [] = root.to
top_target root (m ∷ path) = m.to

-- what is made of the last move of a walk
abbrev pub unwound_moves : Move → Move → List Move
unwound_moves root m = cond (same_place m.to root.from) (saved root ∷ m ∷ []) (m ∷ [])

-- the root after that
abbrev pub unwound_root : Move → Move → Move
unwound_root root m = cond (same_place m.to root.from) (from_spare root) root

abbrev pub unwound : (Move → List Move → List Move → MovesMade) → Move → List Move → List Move → MovesMade
unwound go root [] pending = record { made = root ∷ []; left = pending }
unwound go root (m ∷ path) pending = then_made (unwound_moves root m) (go (unwound_root root m) path pending)

abbrev pub turned : (Move → List Move → List Move → MovesMade) → Move → List Move → List Move → Option Move → MovesMade
turned go root path pending None = unwound go root path pending
turned go root path pending (Some m) = go root (m ∷ path) (others (top_target root path) pending)

-- a walk of at most so many turns, from a root, a path and what is pending
unfoldable pub walked : ℕ → Move → List Move → List Move → MovesMade
walked zero root path pending = record { made = []; left = pending }
walked (suc n) root path pending = turned (walked n) root path pending (first_reader (top_target root path) pending)

-- each pending move is met and made at most once, and the root is made
abbrev pub walk_from : Move → List Move → MovesMade
walk_from root pending = walked (suc (length pending + length pending)) root [] pending

-- ---- all walks

abbrev pub drained_by : (List Move → MovesMade) → Loc → List Move → Option Move → MovesMade
drained_by go place pending None = record { made = []; left = pending }
drained_by go place pending (Some root) =
    then_made (walk_from root (others place pending)).made (go (walk_from root (others place pending)).left)

-- at most so many walks from the pending moves that read a place
unfoldable pub drained_within : ℕ → Loc → List Move → MovesMade
drained_within zero place pending = record { made = []; left = pending }
drained_within (suc n) place pending = drained_by (drained_within n place) place pending (first_reader place pending)

-- all walks from the pending moves that read a place
abbrev pub drained_at : Loc → List Move → MovesMade
drained_at place pending = drained_within (suc (length pending)) place pending

-- the walks from the sources of the moves, one after the other
abbrev pub drained : List Move → List Move → MovesMade
drained [] pending = record { made = []; left = pending }
drained (m ∷ ms) pending = then_made (drained_at m.from pending).made (drained ms (drained_at m.from pending).left)

-- what reads t0 comes first, since t0 is written for each cycle
abbrev pub resolved_moves : List Move → List Move
resolved_moves moves =
    let first = drained_at spare (gathered moves []) in
    first.made ++ (drained moves first.left).made
