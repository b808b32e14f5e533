-- Mach functions in which operands are read from the registers that they are copies of.
--
-- Selection copies each use of a name into a register of its own, so in its code no two operators have the
-- same operands. Once operands are read from what they are copies of, repeats are found by the operands'
-- registers.
use Rattle.std.specs.Prelude.{◌≡◌, ◌≢◌, ℕ, false, List, [], ◌∷◌, ◌++◌, length, map, Contains}
use Rattle.bs_words.specs.declared.types.Comp.TheVariants as comp
use Rattle.bs_words.specs.declared.types.Loc.TheVariants as loc
use Rattle.mach_ir.specs.Placed.{AreStraight}
use Rattle.mach_ir.specs.declared.op.CopyKind.TheVariants as copy
use Rattle.mach_ir.specs.declared.op.Op.TheVariants as op
use Rattle.mach_ir.specs.declared.op.Pure.TheVariants as pure
use Rattle.mach_ir.specs.declared.reg.Reg.{Reg}
use Rattle.mach_ir.specs.declared.mach.MachOp.TheVariants as mach
use Rattle.mach_ir.specs.declared.mach.Instr.{Instr}
use Rattle.mach_ir.specs.declared.mach.Mach.{Mach}
use Rattle.mach_laws.specs.Expand.{expand}
use Rattle.cse_repeat_rules.specs.Repeated.{allocates, EndsHeldValue}

abbrev pub move_instruction : Reg → Reg → Instr
move_instruction from to =
    record { op = mach.Op (op.Pure (pure.Copy copy.Move)); args = from ∷ []; results = to ∷ [] }

-- One register is a copy of another at the end of this code: a move made it so, only instructions of the
-- move's straight run come after it, and none of them writes the copy or ends the source.
pub record IsCopyOf (before : List Instr) (copy source : Reg) : Type 0 where
  pub others : List Instr
  pub run : List Instr
  pub within : before ≡ others ++ move_instruction source copy ∷ run
  pub straight : AreStraight run
  -- both hold values of one kind, and have no place
  pub same_comp : source.comp ≡ copy.comp
  pub source_open : source.loc ≡ loc.Unset
  pub copy_open : copy.loc ≡ loc.Unset
  pub stays : (i : Instr) → Contains run i → (w : Reg) → Contains i.results w → w.number ≢ copy.number
  pub stands : (i : Instr) → Contains run i → (w : Reg) → Contains i.results w → EndsHeldValue source w → ⊥
  -- an addr is lost at an allocation
  pub kept : source.comp ≡ comp.Addr → (i : Instr) → Contains run i → allocates i.op ≡ false

-- What is read in place of an operand after this code: what it is a copy of, or the register itself.
pub data ReadFor (before : List Instr) (operand : Reg) : Reg → Type 0 where
  source : {r : Reg} → IsCopyOf before operand r → ReadFor before operand r
  itself : ((r : Reg) → IsCopyOf before operand r → ⊥) → ReadFor before operand operand

-- ---- the function

-- an instruction that reads these registers, by how many instructions come after it
abbrev pub instr_with_sources : (ℕ → Reg → Reg) → ℕ → Instr → Instr
instr_with_sources plan k i = record i { args = map (plan k) i.args }

abbrev pub alone_with_sources : (ℕ → Reg → Reg) → ℕ → Instr → List Instr
alone_with_sources plan k i = instr_with_sources plan k i ∷ []

abbrev pub with_sources : (ℕ → Reg → Reg) → List Instr → List Instr
with_sources plan code = expand (alone_with_sources plan) code

-- The code before an instruction of a function, as it is with its sources.
pub record IsPropagatedBefore (plan : ℕ → Reg → Reg) (m : Mach) (i : Instr) (next made : List Instr) :
    Type 0 where
  pub before : List Instr
  pub whole : m.code ≡ before ++ i ∷ next
  pub made_so : with_sources plan m.code
      ≡ made ++ instr_with_sources plan (length next) i ∷ with_sources plan next

-- Each operand is read from what it is a copy of.
-- That is within a straight run alone, and between open registers of one type. A fixed place stays what the
-- convention wants of it, and another type would change what is live as val at a frame point.
pub record IsPropagated (m q : Mach) : Type 0 where
  pub plan : ℕ → Reg → Reg
  pub is : q ≡ record m { code = with_sources plan m.code }
  pub reads : (i : Instr) (next made : List Instr) → IsPropagatedBefore plan m i next made →
      (r : Reg) → Contains i.args r → ReadFor made r (plan (length next) r)
