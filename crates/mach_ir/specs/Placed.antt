-- Places of registers: the colours, well-placed functions, colourings with no needless slot.
use Rattle.std.specs.Prelude.{◌≡◌, ◌≢◌, ◌⊎◌, ℕ, ◌≤◌, Bool, true, false, List, ◌∷◌, ◌++◌, All, Contains, map}
use Rattle.bs_words.specs.declared.types.Loc.{Loc}
use Rattle.bs_words.specs.declared.types.Loc.TheVariants as loc
use Rattle.rv_isa.specs.Registers as registers
use Rattle.mach_ir.specs.Walks.{AmongRegisters, Writes, StandsAsInstr, IsRegister, Joined}
use Rattle.mach_ir.specs.declared.blocks.NewBlock.{NewBlock}
use Rattle.mach_ir.specs.declared.op.Access.TheVariants as access
use Rattle.mach_ir.specs.declared.op.Op.TheVariants as op
use Rattle.mach_ir.specs.declared.reg.Reg.{Reg}
use Rattle.mach_ir.specs.declared.mach.MachOp.{MachOp}
use Rattle.mach_ir.specs.declared.mach.MachOp.TheVariants as mach
use Rattle.mach_ir.specs.declared.mach.Instr.{Instr}
use Rattle.mach_ir.specs.declared.mach.Mach.{Mach}

-- the numbers of the colours
abbrev pub colour_numbers : List ℕ
colour_numbers = map registers.register_number registers.colours

-- a register is in a colour, or in the slot that has its origin's number
pub data HasColourOrSlot (r : Reg) : Type 0 where
  in_colour : (n : ℕ) → Contains colour_numbers n → r.loc ≡ loc.Machine n → HasColourOrSlot r
  in_slot : r.loc ≡ loc.Slot r.origin → HasColourOrSlot r

-- For each colour, the register of least number that is placed there.
pub record HasColourRegisters (m : Mach) : Type 0 where
  pub each : map (λ (r : Reg). r.loc) m.colours ≡ map loc.Machine colour_numbers
  pub least : (r q : Reg) → Contains m.colours r → IsRegister m q → q.loc ≡ r.loc →
      r.number ≤ q.number

-- Two registers of one function may have one place where the graph joins them only if they are of
-- one origin and are in its slot.
abbrev pub MayShare : Reg → Reg → Type 0
MayShare r q = (r.origin ≡ q.origin) × (r.loc ≡ loc.Slot r.origin)

-- Of registers, and of which of them are joined, by number: each fixed place is a colour or the
-- slot of the origin, and joined registers with fixed places are apart.
pub record LocationsAgree (IsOne : Reg → Type 0) (AreJoined : ℕ → ℕ → Type 0) : Type 0 where
  pub places : (r : Reg) → IsOne r → (r.loc ≡ loc.Unset) ⊎ HasColourOrSlot r
  pub apart : (r q : Reg) → IsOne r → IsOne q → AreJoined r.number q.number →
      r.loc ≢ loc.Unset → r.loc ≡ q.loc → MayShare r q

pub record WellPlaced (m : Mach) : Type 0 where
  pub colours : HasColourRegisters m
  pub agree : LocationsAgree (IsRegister m) (Joined m)

-- every register has a place
pub record FullyPlaced (m : Mach) : Type 0 where
  pub well : WellPlaced m
  pub places : (r : Reg) → IsRegister m r → HasColourOrSlot r

-- ---- colourings

-- A place for each register, by its number.
abbrev pub Colouring : Type 0
Colouring = ℕ → Loc

abbrev pub placed_by : Colouring → Reg → Reg
placed_by place r = record r { loc = place r.number }

-- Of registers, and of which of them are joined: fixed places stay, each place is a colour or the
-- slot of the origin, and joined registers are apart.
pub record IsProperColouring (IsOne : Reg → Type 0) (AreJoined : ℕ → ℕ → Type 0) (place : Colouring) :
    Type 0 where
  pub fixed : (r : Reg) → IsOne r → (r.loc ≡ loc.Unset) ⊎ (place r.number ≡ r.loc)
  pub places : (r : Reg) → IsOne r → HasColourOrSlot (placed_by place r)
  pub apart : (r q : Reg) → IsOne r → IsOne q → AreJoined r.number q.number →
      place r.number ≡ place q.number → MayShare (placed_by place r) (placed_by place q)

-- A register whose place is open, and which the colouring puts into a slot, has for each colour a
-- neighbour there.
pub record NoNeedlessSlot (IsOne : Reg → Type 0) (AreJoined : ℕ → ℕ → Type 0) (place : Colouring) :
    Type 0 where
  pub full : (r : Reg) → IsOne r → r.loc ≡ loc.Unset → (k : ℕ) → place r.number ≡ loc.Slot k →
      (n : ℕ) → Contains colour_numbers n →
      (q : Reg) × IsOne q × AreJoined r.number q.number × (place q.number ≡ loc.Machine n)

-- ---- straight runs

-- what may be within a straight run: no mark, no call, nothing that may raise or leave
abbrev pub is_straight : MachOp → Bool
is_straight (mach.Op (op.Pure f)) = true
is_straight (mach.Op (op.Access f)) = true
is_straight (mach.Op (op.Calling f)) = false
is_straight (mach.Op (op.Leaving f)) = false
is_straight (mach.Mark f) = false

abbrev pub AreStraight : List Instr → Type 0
AreStraight run = All (λ (i : Instr). is_straight i.op ≡ true) run

-- a sequence of instructions of a function with none but such between
pub record IsStraightRun (m : Mach) (run : List Instr) : Type 0 where
  pub straight : AreStraight run
  pub before : List Instr
  pub after : List Instr
  pub within : m.code ≡ before ++ (run ++ after)

-- ---- what combined allocation asks

-- A register that an allocation writes is open, is written nowhere else, shares its origin with no
-- other, and is not read earlier in the straight run of the allocation.
pub record IsFresh (m : Mach) (i : Instr) (next : List Instr) (r : Reg) : Type 0 where
  pub open_place : r.loc ≡ loc.Unset
  pub once : (j : Instr) (others : List Instr) → StandsAsInstr j others m.code →
      Writes m j r.number → others ≡ next
  pub no_param : AmongRegisters r.number m.params → ⊥
  pub own : (q : Reg) → IsRegister m q → q.origin ≡ r.origin → q ≡ r
  pub unread : (j : Instr) (run : List Instr) → StandsAsInstr j (run ++ i ∷ next) m.code →
      AreStraight (j ∷ run) → AmongRegisters r.number j.args → ⊥

pub record AllocatesFresh (m : Mach) : Type 0 where
  pub fresh : (i : Instr) (next : List Instr) → StandsAsInstr i next m.code → (blocks : List NewBlock) →
      i.op ≡ mach.Op (op.Access (access.Alloc blocks)) → (r : Reg) → Contains i.results r →
      IsFresh m i next r
