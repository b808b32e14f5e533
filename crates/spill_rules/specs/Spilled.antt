-- Mach functions in which registers are stored in slots after writes and reloaded before reads.
use Rattle.std.specs.Prelude.{◌≡◌, ◌≢◌, ℕ, ◌+◌, ◌*◌, ◌<◌, ◌≤◌, Bool, true, false, cond, List, [], ◌∷◌, ◌++◌, length, Contains}
use Rattle.bs_words.specs.declared.types.Loc.TheVariants as loc
use Rattle.mach_ir.specs.Sizes.{Size, HasSize}
use Rattle.mach_ir.specs.Walks.{AmongRegisters, Live, StandsAsInstr, IsRegister}
use Rattle.mach_ir.specs.declared.op.CopyKind.{CopyKind}
use Rattle.mach_ir.specs.declared.op.CopyKind.TheVariants as copy
use Rattle.mach_ir.specs.declared.op.Op.TheVariants as op
use Rattle.mach_ir.specs.declared.op.Pure.TheVariants as pure
use Rattle.mach_ir.specs.declared.reg.Reg.{Reg}
use Rattle.mach_ir.specs.declared.mach.Mark.TheVariants as mark
use Rattle.mach_ir.specs.declared.mach.MachOp.{MachOp}
use Rattle.mach_ir.specs.declared.mach.MachOp.TheVariants as mach
use Rattle.mach_ir.specs.declared.mach.Instr.{Instr}
use Rattle.mach_ir.specs.declared.mach.Mach.{Mach}
use Rattle.mach_laws.specs.Expand.{expand}
use Rattle.split_rules.specs.Writes.{WriteReaches}
use Rattle.mach_laws.specs.Passes.{IsPassKept}

-- Which writes of a register are stored, and before which reads it is reloaded: by how many
-- instructions come after, and by the register's number.
pub record SpillPlan : Type 0 where
  -- the number of the register that stands for a register's slot
  pub slot : ℕ → ℕ
  pub spills : ℕ → ℕ → Bool
  pub reloads : ℕ → ℕ → Bool

-- the slot of a register: it has the number of the register's origin
abbrev pub in_slot : SpillPlan → Reg → Reg
in_slot plan r = record r { number = plan.slot r.number; loc = loc.Slot r.origin }

abbrev pub copy_instruction : CopyKind → Reg → Reg → Instr
copy_instruction kind from to =
    record { op = mach.Op (op.Pure (pure.Copy kind)); args = from ∷ []; results = to ∷ [] }

abbrev pub reload : SpillPlan → Reg → Instr
reload plan r = copy_instruction copy.Reload (in_slot plan r) r

abbrev pub spill : SpillPlan → Reg → Instr
spill plan r = copy_instruction copy.Spill r (in_slot plan r)

abbrev pub reloads_of : SpillPlan → ℕ → List Reg → List Instr
reloads_of plan k [] = []
reloads_of plan k (r ∷ rs) =
    cond (plan.reloads k r.number) (reload plan r ∷ reloads_of plan k rs) (reloads_of plan k rs)

abbrev pub spills_of : SpillPlan → ℕ → List Reg → List Instr
spills_of plan k [] = []
spills_of plan k (r ∷ rs) =
    cond (plan.spills k r.number) (spill plan r ∷ spills_of plan k rs) (spills_of plan k rs)

-- what has operands, and what has results: other marks have none
abbrev pub has_operands : MachOp → Bool
has_operands (mach.Op f) = true
has_operands (mach.Mark (mark.If test l)) = true
has_operands (mach.Mark (mark.Switch labels)) = true
has_operands (mach.Mark _) = false

abbrev pub has_results : MachOp → Bool
has_results (mach.Op f) = true
has_results (mach.Mark (mark.Handler l)) = true
has_results (mach.Mark _) = false

abbrev pub operand_registers : Instr → List Reg
operand_registers i = cond (has_operands i.op) i.args []

abbrev pub written_results : Instr → List Reg
written_results i = cond (has_results i.op) i.results []

-- an instruction, its reloads before it and its spills after it
abbrev pub spilled_instr : SpillPlan → ℕ → Instr → List Instr
spilled_instr plan k i =
    reloads_of plan k (operand_registers i) ++ i ∷ spills_of plan k (written_results i)

abbrev pub spilled : SpillPlan → Mach → Mach
spilled plan m = record m { code = expand (spilled_instr plan) m.code }

-- What a plan owes for a function to do what it did.
pub record IsSpillPlan (m : Mach) (plan : SpillPlan) : Type 0 where
  -- each register has a slot register of its own, with a number that no register has
  pub back : ℕ → ℕ
  pub slot_back : (n : ℕ) → back (plan.slot n) ≡ n
  pub fresh : (r : Reg) → IsRegister m r → (n : ℕ) → plan.slot n ≢ r.number
  -- only registers whose places are open are stored and reloaded
  pub spills_open : (r : Reg) → IsRegister m r → (k : ℕ) → plan.spills k r.number ≡ true →
      r.loc ≡ loc.Unset
  pub reloads_open : (r : Reg) → IsRegister m r → (k : ℕ) → plan.reloads k r.number ≡ true →
      r.loc ≡ loc.Unset
  -- a register is reloaded only where each write of it that comes there was stored
  pub stored : (i : Instr) (next from : List Instr) (n : ℕ) → StandsAsInstr i next m.code →
      AmongRegisters n i.args → plan.reloads (length next) n ≡ true → WriteReaches m n from (i ∷ next) →
      plan.spills (length from) n ≡ true
  -- what is stored is live after its write
  pub useful : (i : Instr) (next : List Instr) (r : Reg) → StandsAsInstr i next m.code →
      Contains i.results r → plan.spills (length next) r.number ≡ true → Live m r.number next
  -- the entry stores nothing
  pub entry : (n : ℕ) → AmongRegisters n m.params → plan.spills (length m.code) n ≡ false

-- what a function with spills and reloads keeps
pub record IsSpillKept (m q : Mach) (plan : SpillPlan) : Type 0 where
  pub pass : IsPassKept m q
  -- at most an instruction more for each operand and result, and two operands or results for each of these
  pub size : (s : Size) (registers : ℕ) → HasSize m s → s.registers ≤ registers →
      ((r : Reg) → IsRegister m r → plan.slot r.number < registers) →
      HasSize q
      (record s {
        instrs = s.instrs + s.operands;
        operands = 3 * s.operands;
        registers = registers;
      })
