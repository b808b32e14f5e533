-- Which registers spilling stores and reloads: those that live over a call, stored where they are
-- written, and reloaded late.
use Rattle.std.specs.Prelude.{◌≡◌, ◌≢◌, ◌↔◌, ◌⊎◌, ℕ, ◌+◌, ◌*◌, ◌<◌, ◌≤◌, true, List, ◌∷◌, length, Contains}
use Rattle.bs_words.specs.declared.types.Loc.TheVariants as loc
use Rattle.mach_ir.specs.Meaning.{Everything, destroyed_by}
use Rattle.mach_ir.specs.Sizes.{Size, HasSize}
use Rattle.mach_ir.specs.Walks.{AmongRegisters, Live, Writes, WalkStep, StandsAsInstr, IsRegister}
use Rattle.mach_ir.specs.declared.reg.Reg.{Reg}
use Rattle.mach_ir.specs.declared.mach.Instr.{Instr}
use Rattle.mach_ir.specs.declared.mach.Mach.{Mach}
use Rattle.split_rules.specs.Writes.{WriteReaches}
use Rattle.spill_rules.specs.Spilled.{SpillPlan, reloads_of, spills_of, operand_registers, written_results, spilled, IsSpillKept}

-- A register is live over an instruction that destroys every colour (a call or the entry of a
-- handler): it is live where control goes on from there, and not written there. A tail call goes
-- nowhere. An external call leaves colours, so what is live over it may keep one.
-- Thirty values over an external call then take 21 slots and not thirty, and nine none. OCaml's `spill.ml`
-- sets the two apart in the same way.
pub data LivesOver (m : Mach) (n : ℕ) (i : Instr) (next : List Instr) : List Instr → Type 0 where
  lives : {to : List Instr} → StandsAsInstr i next m.code → destroyed_by i.op ≡ Everything →
      (Writes m i n → ⊥) → WalkStep m i next to → Live m n to → LivesOver m n i next to

-- A register is lost from where it has lived over such an instruction up to its next read, which
-- reloads it, or its next write. A raise leads to the entry of a handler, and that is such an
-- instruction itself.
pub data Lost (m : Mach) (n : ℕ) : List Instr → Type 0 where
  over : {i : Instr} {next to : List Instr} → LivesOver m n i next to → Lost m n to
  still : {i : Instr} {next to : List Instr} → Lost m n (i ∷ next) → (AmongRegisters n i.args → ⊥) →
      (Writes m i n → ⊥) → WalkStep m i next to → Lost m n to

-- An operand is reloaded where its place is open and it is lost.
pub record IsReloaded (m : Mach) (i : Instr) (next : List Instr) (n : ℕ) : Type 0 where
  pub stands : StandsAsInstr i next m.code
  pub register : Reg
  pub operand : Contains i.args register
  pub number : register.number ≡ n
  pub unset : register.loc ≡ loc.Unset
  pub lost : Lost m n (i ∷ next)

-- A write, known by the code after it, is stored where it comes to a place at which the register is
-- reloaded.
pub record IsStoredWrite (m : Mach) (next : List Instr) (n : ℕ) : Type 0 where
  pub instr : Instr
  pub stands : StandsAsInstr instr next m.code
  pub writes : Writes m instr n
  pub reader : Instr
  pub rest : List Instr
  pub reloaded : IsReloaded m reader rest n
  pub comes : WriteReaches m n next (reader ∷ rest)

-- the same before so many instructions, the instruction itself being none of them
pub record ReloadsAt (m : Mach) (k n : ℕ) : Type 0 where
  pub instr : Instr
  pub next : List Instr
  pub len : length next ≡ k
  pub reloaded : IsReloaded m instr next n

pub record StoresAt (m : Mach) (k n : ℕ) : Type 0 where
  pub next : List Instr
  pub len : length next ≡ k
  pub stored : IsStoredWrite m next n

-- The plan that spilling chooses. The number of a slot's register is that of its register and `free`, which is
-- the least number above those of all registers.
pub record IsSpillChoice (m : Mach) (plan : SpillPlan) : Type 0 where
  pub reloads : (k n : ℕ) → (plan.reloads k n ≡ true) ↔ ReloadsAt m k n
  pub spills : (k n : ℕ) → (plan.spills k n ≡ true) ↔ StoresAt m k n
  pub free : ℕ
  pub above : (r : Reg) → IsRegister m r → r.number < free
  pub least : (b : ℕ) → ((r : Reg) → IsRegister m r → r.number < b) → free ≤ b
  pub slots : (n : ℕ) → plan.slot n ≡ free + n

-- What spilling makes of a function.
pub record IsSpilled (m q : Mach) : Type 0 where
  pub plan : SpillPlan
  pub chosen : IsSpillChoice m plan
  pub is : q ≡ spilled plan m

-- Parameters are at fixed places, as the conventions say (`Seated`): the entry stores nothing.
pub record ParamsPlaced (m : Mach) : Type 0 where
  pub placed : (r : Reg) → Contains m.params r → r.loc ≢ loc.Unset

-- ---- what it gives

-- A register is in the slot of an open one, with the number of that one's origin. That one lives
-- over a call or the entry of a handler.
pub record IsNeededSlot (m : Mach) (r : Reg) : Type 0 where
  pub register : Reg
  pub among : IsRegister m register
  pub unset : register.loc ≡ loc.Unset
  pub stands : r.loc ≡ loc.Slot register.origin
  pub origin : r.origin ≡ register.origin
  pub comp : r.comp ≡ register.comp
  pub call : Instr
  pub next : List Instr
  pub to : List Instr
  pub over : LivesOver m register.number call next to

-- The bounds on a function with its stores and reloads, by those on the one without: at most a reload for
-- each operand and a store for each result, each of which reads and writes one register, and for each
-- register at most one more, which is in its slot.
abbrev pub spilled_size : Size → Size
spilled_size s =
    record s {
      instrs = s.instrs + s.operands;
      operands = 3 * s.operands;
      registers = 2 * s.registers;
    }

pub record IsChosenKept (m q : Mach) (plan : SpillPlan) : Type 0 where
  pub kept : IsSpillKept m q plan
  -- the only new registers are in such slots
  pub slots : (r : Reg) → IsRegister q r → IsRegister m r ⊎ IsNeededSlot m r
  -- at most one reload for each operand, and one store for each place where a register is written
  pub reloads : (i : Instr) (k : ℕ) →
      length (reloads_of plan k (operand_registers i)) ≤ length i.args
  pub spills : (i : Instr) (k : ℕ) → length (spills_of plan k (written_results i)) ≤ length i.results
  pub size : (s : Size) → HasSize m s → HasSize q (spilled_size s)
