-- Mach functions in which what is in slots is reloaded before it is read and spilled after it is
-- written, but by copies.
--
-- A register of a reload that is put into a slot itself goes to the slot of its origin, and that copy has
-- no words. So an operand costs words once, however many rounds there are.
use Rattle.std.specs.Prelude.{◌≡◌, ℕ, suc, ◌<◌, ◌≤◌, Bool, true, false, cond, ◌&&◌, ◌||◌, not, List, [], ◌∷◌, ◌++◌}
use Rattle.bs_words.specs.declared.types.Loc.{Loc}
use Rattle.bs_words.specs.declared.types.Loc.TheVariants as loc
use Rattle.mach_ir.specs.Placed.{Colouring}
use Rattle.mach_ir.specs.Walks.{IsRegister}
use Rattle.mach_ir.specs.declared.op.CopyKind.TheVariants as copy
use Rattle.mach_ir.specs.declared.op.Op.{Op}
use Rattle.mach_ir.specs.declared.op.Op.TheVariants as op
use Rattle.mach_ir.specs.declared.op.Pure.TheVariants as pure
use Rattle.mach_ir.specs.declared.reg.Reg.{Reg}
use Rattle.mach_ir.specs.declared.mach.Mark.TheVariants as mark
use Rattle.mach_ir.specs.declared.mach.MachOp.{MachOp}
use Rattle.mach_ir.specs.declared.mach.MachOp.TheVariants as mach
use Rattle.mach_ir.specs.declared.mach.Instr.{Instr}
use Rattle.mach_ir.specs.declared.mach.Mach.{Mach}
use Rattle.colouring_rules.specs.Places.{LocationAssignment, with_places, with_colouring}
use Rattle.spill_rules.specs.Spilled.{copy_instruction}

-- ---- which operands and results

-- moves, spills and reloads
abbrev pub is_copy : Op → Bool
is_copy (op.Pure (pure.Copy kind)) = true
is_copy _ = false

-- Whether the operands may not be in slots: those of all operations but copies, and of tests. Other
-- marks have none.
abbrev pub reads_registers : MachOp → Bool
reads_registers (mach.Op f) = not (is_copy f)
reads_registers (mach.Mark (mark.If test l)) = true
reads_registers (mach.Mark (mark.Switch labels)) = true
reads_registers (mach.Mark _) = false

-- The same of the results: those of all operations but copies, and of handlers.
abbrev pub writes_registers : MachOp → Bool
writes_registers (mach.Op f) = not (is_copy f)
writes_registers (mach.Mark (mark.Handler l)) = true
writes_registers (mach.Mark _) = false

abbrev pub is_in_slot : Loc → Bool
is_in_slot (loc.Slot k) = true
is_in_slot (loc.Machine n) = false
is_in_slot loc.Unset = false

-- whether there has to be another register for this one, where slots will not do
abbrev pub is_renewed : Bool → Reg → Bool
is_renewed registers r = registers && is_in_slot r.loc

-- ---- fresh registers

-- another register for this one, its place open
abbrev pub fresh_stand_in : ℕ → Reg → Reg
fresh_stand_in n r = record r { number = n; loc = loc.Unset }

-- the next number, once this register has been gone over
abbrev pub next_reload_number : Bool → ℕ → Reg → ℕ
next_reload_number registers n r = cond (is_renewed registers r) (suc n) n

abbrev pub number_past : Bool → ℕ → List Reg → ℕ
number_past registers n [] = n
number_past registers n (r ∷ rs) = number_past registers (next_reload_number registers n r) rs

-- the fresh registers from this number on, for those that need one
abbrev pub renewed : Bool → ℕ → List Reg → List Reg
renewed registers n [] = []
renewed registers n (r ∷ rs) =
    cond (is_renewed registers r) (fresh_stand_in n r) r ∷ renewed registers (next_reload_number registers n r) rs

-- the copies from slots to the fresh registers, and back
abbrev pub reloads : Bool → ℕ → List Reg → List Instr
reloads registers n [] = []
reloads registers n (r ∷ rs) =
    cond (is_renewed registers r) (copy_instruction copy.Reload r (fresh_stand_in n r) ∷ reloads registers (suc n) rs)
    (reloads registers n rs)

abbrev pub spills : Bool → ℕ → List Reg → List Instr
spills registers n [] = []
spills registers n (r ∷ rs) =
    cond (is_renewed registers r) (copy_instruction copy.Spill (fresh_stand_in n r) r ∷ spills registers (suc n) rs)
    (spills registers n rs)

-- ---- instructions

-- the first number for the results of an instruction, and the first after it
abbrev pub results_from : ℕ → Instr → ℕ
results_from n i = number_past (reads_registers i.op) n i.args

abbrev pub past_instr : ℕ → Instr → ℕ
past_instr n i = number_past (writes_registers i.op) (results_from n i) i.results

-- the instruction over its fresh registers
abbrev pub renewed_instr : ℕ → Instr → Instr
renewed_instr n i =
    record i {
      args = renewed (reads_registers i.op) n i.args;
      results = renewed (writes_registers i.op) (results_from n i) i.results;
    }

-- Its operands in slots are reloaded before, its results in slots are spilled after it.
abbrev pub reloaded_instr : ℕ → Instr → List Instr
reloaded_instr n i =
    reloads (reads_registers i.op) n i.args ++ renewed_instr n i
    ∷ spills (writes_registers i.op) (results_from n i) i.results

-- numbers rise in the order of the text
abbrev pub reloaded_code : ℕ → List Instr → List Instr
reloaded_code n [] = []
reloaded_code n (i ∷ is) = reloaded_instr n i ++ reloaded_code (past_instr n i) is

abbrev pub reloaded : ℕ → Mach → Mach
reloaded free m = record m { code = reloaded_code free m.code }

-- ---- whether any is renewed

abbrev pub any_renewed : Bool → List Reg → Bool
any_renewed registers [] = false
any_renewed registers (r ∷ rs) = is_renewed registers r || any_renewed registers rs

abbrev pub needs_registers : Instr → Bool
needs_registers i =
    any_renewed (reads_registers i.op) i.args || any_renewed (writes_registers i.op) i.results

abbrev pub any_needs : List Instr → Bool
any_needs [] = false
any_needs (i ∷ is) = needs_registers i || any_needs is

-- ---- by a colouring

-- a slot, or else the place that it has
abbrev pub slot_or : Loc → Loc → Loc
slot_or own (loc.Slot k) = loc.Slot k
slot_or own (loc.Machine n) = own
slot_or own loc.Unset = own

-- Each register that the colouring puts into a slot is there. The others stay as they are.
abbrev pub to_slots : Colouring → LocationAssignment
to_slots place r = slot_or r.loc (place r.number)

abbrev pub in_slots : Colouring → Mach → Mach
in_slots place m = with_places (to_slots place) m

-- the least number above those of all registers
pub record IsFree (m : Mach) (free : ℕ) : Type 0 where
  pub above : (r : Reg) → IsRegister m r → r.number < free
  pub least : (b : ℕ) → ((r : Reg) → IsRegister m r → r.number < b) → free ≤ b

-- What reloading makes of a function by a colouring, and whether it asks for another round. Where no
-- operand or result of an operation other than a copy is in a slot, each register is put where the
-- colouring has it. Else those in slots stay there, each such operand and result gets a register of its
-- own, and all others are as they were.
pub data IsReloadedBy (m : Mach) (place : Colouring) : Mach → Bool → Type 0 where
  is_coloured : any_needs (in_slots place m).code ≡ false →
      IsReloadedBy m place (with_colouring place m) false
  asks_again : {free : ℕ} → any_needs (in_slots place m).code ≡ true → IsFree m free →
      IsReloadedBy m place (reloaded free (in_slots place m)) true
