-- What the passes before register allocation make of a Mach function (OCaml's `asmcomp/asmgen.ml`,
-- with two more right before spilling).
--
-- It is one flat record, a field for each pass with its relation: so one function is made, though most
-- passes are said by relations.
--
-- Copies and repeats are done twice, which finds the addresses of elements. What is three deep is left; one
-- walk that reads sources and looks for repeats in the same code would find it too.
use Rattle.std.specs.Prelude.{ℕ, ◌+◌, ◌*◌, length}
use Rattle.comballoc_rules.specs.Combined.{combined}
use Rattle.comballoc_rules.specs.Kept.{IsCombinable}
use Rattle.cse_copy_rules.specs.Propagated.{IsPropagated}
use Rattle.hoist_rules.specs.Chosen.{HasConstantsFirst}
use Rattle.hoist_rules.specs.Known.{IsDropped}
use Rattle.mach_ir.specs.Formed.{WellFormed}
use Rattle.mach_ir.specs.Keeps.{Keeps}
use Rattle.mach_ir.specs.Placed.{WellPlaced}
use Rattle.mach_ir.specs.Seats.{Seated}
use Rattle.mach_ir.specs.Sizes.{Size, HasSize, OpenAtMost, operand_count}
use Rattle.mach_ir.specs.Walks.{NoAddrLive}
use Rattle.mach_ir.specs.declared.mach.Mach.{Mach}
use Rattle.pass_rules.specs.Carried.{IsCarried}
use Rattle.pass_rules.specs.Measures.{copy_words}
use Rattle.colouring_rules.specs.Places.{ColoursLow}
use Rattle.cse_repeat_rules.specs.Repeated.{IsRepeated}
use Rattle.sink_rules.specs.Chosen.{IsSunk}
use Rattle.sink_rules.specs.Known.{IsSpilled}
use Rattle.split_rules.specs.Split.{IsSplit}

-- Each pass in its order, with what it makes.
pub record IsPreparedMach (m q : Mach) : Type 0 where
  -- allocations combined, and operands read from what they are copies of
  pub propagated : Mach
  pub is_propagated : IsPropagated (combined m) propagated
  -- repeats made moves
  pub common : Mach
  pub is_common : IsRepeated propagated common
  -- both again: what was computed from a repeat repeats too once that is a copy, as the address of an
  -- element does once its offset is
  pub propagated_again : Mach
  pub is_propagated_again : IsPropagated common propagated_again
  pub common_again : Mach
  pub is_common_again : IsRepeated propagated_again common_again
  -- without what only computes and is not used
  pub dropped : Mach
  pub is_dropped : IsDropped common_again dropped
  -- constants of loops made at the entry
  pub hoisted : Mach
  pub has_constants_first : HasConstantsFirst dropped hoisted
  -- some of what lives over calls moved to itself before one of them, so that it is stored late
  pub sunk : Mach
  pub is_sunk : IsSunk hoisted sunk
  -- slots for what lives over calls
  pub spilled : Mach
  pub is_spilled : IsSpilled sunk spilled
  -- and a number of its own for each web of writes
  pub is_split : IsSplit spilled q

-- what these passes ask of a function: selection gives it
pub record IsPreparable (m : Mach) : Type 0 where
  pub combinable : IsCombinable m
  pub placed : WellPlaced m
  pub seated : Seated m
  pub colours_low : ColoursLow m
  pub no_addr : NoAddrLive m

-- Bounds on the function, by those on the one that it is made of, and the number of its parameters.
-- A register is moved to itself once at the most. Spilling adds at most a copy for each operand and
-- result, and each web has a number of its own.
abbrev pub prepared_size : ℕ → Size → Size
prepared_size parameters s =
    record s {
      instrs = s.instrs + s.registers + (s.operands + 2 * s.registers);
      operands = 3 * (s.operands + 2 * s.registers);
      registers = 2 * s.registers + (3 * (s.operands + 2 * s.registers) + parameters);
    }

-- What a function keeps that is prepared.
pub record IsPreparedKept (m q : Mach) : Type 0 where
  pub keeps : Keeps m q
  pub formed : WellFormed q
  pub placed : WellPlaced q
  pub seated : Seated q
  pub size : (s : Size) → HasSize m s → HasSize q (prepared_size (length m.params) s)
  -- at most a copy for each operand and result, and three for each open register: its move to itself,
  -- and one for the operand and one for the result of that
  pub carried : (k : ℕ) → OpenAtMost m k →
      IsCarried (copy_words * (operand_count m.code + 3 * k)) m q
