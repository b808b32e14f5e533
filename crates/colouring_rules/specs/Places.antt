-- Mach functions whose registers are put at chosen places.
--
-- Places are proved for any choice by register, of which colouring and the last resort are cases. The
-- relation is equality of what is live, since registers of one origin must agree in both.
use Rattle.std.specs.Prelude.{◌≡◌, ◌≢◌, ◌⊎◌, ℕ, ◌<◌, ◌≤◌, List, length, map, Contains}
use Rattle.bs_words.specs.declared.types.Loc.{Loc}
use Rattle.bs_words.specs.declared.types.Loc.TheVariants as loc
use Rattle.mach_ir.specs.Placed.{HasColourOrSlot, MayShare, Colouring}
use Rattle.mach_ir.specs.Walks.{IsRegister, Joined}
use Rattle.mach_ir.specs.declared.reg.Reg.{Reg}
use Rattle.mach_ir.specs.declared.mach.Instr.{Instr}
use Rattle.mach_ir.specs.declared.mach.Mach.{Mach}

-- ---- registers at chosen places

-- a place for each register
abbrev pub LocationAssignment : Type 0
LocationAssignment = Reg → Loc

abbrev pub located_register : LocationAssignment → Reg → Reg
located_register place r = record r { loc = place r }

abbrev pub all_placed : LocationAssignment → List Reg → List Reg
all_placed place rs = map (located_register place) rs

abbrev pub placed_instr : LocationAssignment → Instr → Instr
placed_instr place i =
    record i { args = all_placed place i.args; results = all_placed place i.results }

abbrev pub placed_code : LocationAssignment → List Instr → List Instr
placed_code place code = map (placed_instr place) code

-- Each register is where it is placed. All else is as it was.
abbrev pub with_places : LocationAssignment → Mach → Mach
with_places place m =
    record m {
      params = all_placed place m.params;
      colours = all_placed place m.colours;
      code = placed_code place m.code;
    }

-- Fixed places stay, each place is a colour or the slot of the origin, or stays open, and joined
-- registers that have places are apart.
pub record IsProperAssignment (m : Mach) (place : LocationAssignment) : Type 0 where
  pub fixed : (r : Reg) → IsRegister m r → (r.loc ≡ loc.Unset) ⊎ (place r ≡ r.loc)
  pub places : (r : Reg) → IsRegister m r → (place r ≡ loc.Unset) ⊎ HasColourOrSlot (located_register place r)
  pub apart : (r q : Reg) → IsRegister m r → IsRegister m q → Joined m r.number q.number →
      place r ≢ loc.Unset → place r ≡ place q → MayShare (located_register place r) (located_register place q)

-- The registers of the colours have lower numbers than those whose places are open: so none of these
-- becomes the register of least number at a colour.
-- What a call destroys at a colour is written to the register of least number there.
abbrev pub ColoursLow : Mach → Type 0
ColoursLow m =
    (r q : Reg) → Contains m.colours r → IsRegister m q → q.loc ≡ loc.Unset → r.number < q.number

-- ---- colourings

-- each register at the place that the colouring has for its number
abbrev pub with_colouring : Colouring → Mach → Mach
with_colouring place m = with_places (λ r. place r.number) m

-- ---- the last resort

-- an open place becomes this slot, and a fixed one stays
abbrev pub or_slot : ℕ → Loc → Loc
or_slot slot loc.Unset = loc.Slot slot
or_slot slot (loc.Machine n) = loc.Machine n
or_slot slot (loc.Slot k) = loc.Slot k

-- the slot that has the number of the register's origin, where the place is open
abbrev pub last_resort : LocationAssignment
last_resort r = or_slot r.origin r.loc

-- Each register whose place is open goes to the slot that has its origin's number.
abbrev pub rest_in_slots : Mach → Mach
rest_in_slots m = with_places last_resort m

-- ---- how many slots there are

-- some register of the function is in this slot
pub record IsSlot (m : Mach) (slot : ℕ) : Type 0 where
  pub register : Reg
  pub among : IsRegister m register
  pub stands : register.loc ≡ loc.Slot slot

-- The slots of the second function are those of the first, and at most so many others.
pub record SlotsGrow (p q : Mach) (most : ℕ) : Type 0 where
  pub others : List ℕ
  pub few : length others ≤ most
  pub all : (slot : ℕ) → IsSlot q slot → IsSlot p slot ⊎ Contains others slot
