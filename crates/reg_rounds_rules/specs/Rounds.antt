-- What register allocation makes of a function: rounds in which places are chosen and what is put into
-- slots is reloaded, and the last resort.
use Rattle.std.specs.Prelude.{◌≡◌, ℕ, suc, ◌+◌, ◌*◌, ◌<◌, ◌≤◌, Bool, true, false, length}
use Rattle.choices.specs.declared.choices.Alloc.{Alloc}
use Rattle.choices.specs.declared.choices.Alloc.TheVariants.{Colour, Linear}
use Rattle.colouring.specs.Chosen.{IsGreedyColouring}
use Rattle.linscan_rules.specs.Contract.{NoNeedlessSlotByIntervals}
use Rattle.linscan_rules.specs.Ranges.{IsInterval}
use Rattle.linscan_rules.specs.Table.{IsIntervalsOf, IsScannedBy}
use Rattle.linscan_rules.specs.declared.interval.Intervals.{Intervals}
use Rattle.mach_ir.specs.Formed.{WellFormed}
use Rattle.mach_ir.specs.Graph.{InGraph, JoinedIn, IsGraph, coloured_location}
use Rattle.mach_ir.specs.Keeps.{Keeps}
use Rattle.mach_ir.specs.Placed.{IsProperColouring, NoNeedlessSlot, FullyPlaced}
use Rattle.mach_ir.specs.Seats.{Seated}
use Rattle.mach_ir.specs.Sizes.{Size}
use Rattle.mach_ir.specs.declared.graph.Colours.{Colours}
use Rattle.mach_ir.specs.declared.graph.Graph.{Graph}
use Rattle.mach_ir.specs.declared.mach.Mach.{Mach}
use Rattle.reload_rules.specs.Known.{IsCarried, copy_words, other_operands}
use Rattle.colouring_rules.specs.Places.{rest_in_slots}
use Rattle.reload_rules.specs.Kept.{with_copies}
use Rattle.reload_rules.specs.Reloaded.{IsFree, IsReloadedBy}

-- What linear scan takes: the places to which the intervals of the function lead. None is in a slot
-- needlessly, by intervals.
pub record IsLinearScan (m : Mach) (g : Graph) (c : Colours) : Type 0 where
  pub intervals : Intervals
  pub of_function : IsIntervalsOf m intervals
  pub no_needless : NoNeedlessSlotByIntervals (InGraph g) (IsInterval m) (coloured_location c)
  pub scanned : IsScannedBy g intervals c

-- Which places a choice takes for the graph of a function, where registers of this number on are those
-- of reloads. Colouring puts none into a slot for which a colour is left, and its order settles the rest.
abbrev pub Chooses : Alloc → ℕ → Mach → Graph → Colours → Type 0
Chooses Colour fresh m g c =
    NoNeedlessSlot (InGraph g) (JoinedIn g) (coloured_location c) × IsGreedyColouring fresh g c
Chooses Linear fresh m g c = IsLinearScan m g c

-- One round: the graph of a function, places for its registers, what reloading makes of the function by
-- these, and whether it asks for another round. Registers of this number on are those of reloads.
pub record IsRound (alloc : Alloc) (fresh : ℕ) (m q : Mach) (asks : Bool) : Type 0 where
  pub graph : Graph
  pub of_function : IsGraph m graph
  pub colours : Colours
  -- fixed places stay, and neighbours are apart
  pub fine : IsProperColouring (InGraph graph) (JoinedIn graph) (coloured_location colours)
  pub chosen : Chooses alloc fresh m graph colours
  pub reloaded : IsReloadedBy m (coloured_location colours) q asks

-- So many rounds lead from the first function to this one, and each asked for another.
pub data RoundsAsked (alloc : Alloc) (fresh : ℕ) (first : Mach) : ℕ → Mach → Type 0 where
  none_yet : RoundsAsked alloc fresh first 0 first
  one_more : {rounds : ℕ} {m q : Mach} → RoundsAsked alloc fresh first rounds m →
      IsRound alloc fresh m q true → RoundsAsked alloc fresh first (suc rounds) q

-- after how many rounds allocation gives up
abbrev pub most_rounds : ℕ
most_rounds = 50

-- How large a function is at most after all rounds: a round adds at most a copy and a register for each
-- operand or result, where it is in a slot, and no copy asks for another.
abbrev pub allocated_size : Size → Size
allocated_size s = with_copies (most_rounds * s.operands) s

-- Either the last round asks for no other, or after so many that each asked for another the first
-- function is taken, with a slot for each register whose place is open.
pub data EndsRounds (alloc : Alloc) (fresh : ℕ) (first : Mach) : Mach → ℕ → Bool → Type 0 where
  asks_no_more : {rounds : ℕ} {m q : Mach} → rounds < most_rounds →
      RoundsAsked alloc fresh first rounds m → IsRound alloc fresh m q false →
      EndsRounds alloc fresh first q (suc rounds) false
  gives_up : {m : Mach} → RoundsAsked alloc fresh first most_rounds m →
      EndsRounds alloc fresh first (rest_in_slots first) most_rounds true

-- What allocation makes of a function, in how many rounds, and whether it gave up.
pub record IsAllocatedIn (alloc : Alloc) (m q : Mach) (rounds : ℕ) (rest : Bool) : Type 0 where
  pub fresh : ℕ
  pub free : IsFree m fresh
  pub ends : EndsRounds alloc fresh m q rounds rest

-- That rounds end is not proved. The last resort begins with the function as it was before the first round,
-- so that nothing of the rounds has to be undone.
pub record IsRegisterAllocated (alloc : Alloc) (m q : Mach) : Type 0 where
  pub rounds : ℕ
  pub rest : Bool
  pub allocated : IsAllocatedIn alloc m q rounds rest

-- What an allocated function keeps.
pub record IsAllocationKept (m q : Mach) : Type 0 where
  -- it does what the first does
  pub keeps : Keeps m q
  pub formed : WellFormed q
  -- each register has a place, and joined ones are apart
  pub placed : FullyPlaced q
  pub seated : Seated m → Seated q
  -- of the copies that reloading makes for an operand only one has words
  pub carried : IsCarried (copy_words * other_operands m.code) m q
  pub labels : q.labels ≡ m.labels
  pub instrs : length q.code ≤ length m.code + most_rounds * other_operands m.code
