-- Mach functions without the code that no walk reaches.
use Rattle.std.specs.Prelude.{◌≡◌, ℕ, suc, Bool, true, false, List, [], ◌∷◌}
use Rattle.mach_ir.specs.Formed.{TargetsLabel}
use Rattle.mach_ir.specs.Meaning.{has_label}
use Rattle.mach_ir.specs.Walks.{Reached, StandsAsInstr}
use Rattle.mach_ir.specs.declared.mach.Mark.TheVariants as mark
use Rattle.mach_ir.specs.declared.mach.MachOp.{MachOp}
use Rattle.mach_ir.specs.declared.mach.MachOp.TheVariants as mach
use Rattle.mach_ir.specs.declared.mach.Instr.{Instr}
use Rattle.mach_ir.specs.declared.mach.Mach.{Mach}

-- ---- the marks of a `try` and of a `catch`

-- the marks of the `try` of this label: where it begins, where its body ends, and its handler
pub data IsTryMark (l : ℕ) : MachOp → Type 0 where
  begins : IsTryMark l (mach.Mark (mark.Try l))
  leaves : {end : ℕ} → IsTryMark l (mach.Mark (mark.Leave l end))
  handles : IsTryMark l (mach.Mark (mark.Handler l))

-- A `catch` has no label: its other marks are a `with` for each handler, and an `end`.
pub data IsCatchMark : MachOp → Type 0 where
  is_with : {l end : ℕ} → IsCatchMark (mach.Mark (mark.With l end))
  is_end : {l : ℕ} → IsCatchMark (mach.Mark (mark.End l))

-- whether a structure begins with a mark
abbrev pub opens_structure : MachOp → Bool
opens_structure (mach.Mark mark.Catch) = true
opens_structure (mach.Mark (mark.If test l)) = true
opens_structure (mach.Mark (mark.Switch labels)) = true
opens_structure (mach.Mark (mark.Try l)) = true
opens_structure _ = false

-- whether one ends with it
abbrev pub ends_structure : MachOp → Bool
ends_structure (mach.Mark (mark.End l)) = true
ends_structure _ = false

-- The instruction, with this code next, is a mark of a `catch`. The code that is looked through
-- stands in that `catch`, inside so many structures of its own.
pub data IsCatchMarkIn (i : Instr) (next : List Instr) : ℕ → List Instr → Type 0 where
  this : IsCatchMark i.op → IsCatchMarkIn i next 0 (i ∷ next)
  inside : {depth : ℕ} {j : Instr} {is : List Instr} → opens_structure j.op ≡ true →
      IsCatchMarkIn i next (suc depth) is → IsCatchMarkIn i next depth (j ∷ is)
  outside : {depth : ℕ} {j : Instr} {is : List Instr} → ends_structure j.op ≡ true →
      IsCatchMarkIn i next depth is → IsCatchMarkIn i next (suc depth) (j ∷ is)
  past : {depth : ℕ} {j : Instr} {is : List Instr} → opens_structure j.op ≡ false →
      ends_structure j.op ≡ false → IsCatchMarkIn i next depth is →
      IsCatchMarkIn i next depth (j ∷ is)

-- ---- what stays

-- An instruction, with this code next, stays if some walk reaches it; or if what stays leads to its
-- label; or if it is a mark of a `try`, or of a `catch`, that stays.
pub data Stays (m : Mach) : Instr → List Instr → Type 0 where
  is_reached : {i : Instr} {next : List Instr} → Reached m (i ∷ next) → Stays m i next
  is_place : {i j : Instr} {next others : List Instr} {l : ℕ} → StandsAsInstr j others m.code →
      Stays m j others → TargetsLabel j.op l → has_label l i.op ≡ true → Stays m i next
  is_of_try : {i j : Instr} {next others : List Instr} {l : ℕ} → StandsAsInstr j others m.code →
      Stays m j others → j.op ≡ mach.Mark (mark.Try l) → IsTryMark l i.op → Stays m i next
  is_of_catch : {i j : Instr} {next others : List Instr} → StandsAsInstr j others m.code →
      Stays m j others → j.op ≡ mach.Mark mark.Catch → IsCatchMark i.op →
      IsCatchMarkIn i next 0 others → Stays m i next

-- a code, and exactly what stays of it, in order
pub data IsTrimmedCode (m : Mach) : List Instr → List Instr → Type 0 where
  no_code : IsTrimmedCode m [] []
  stays : {i : Instr} {next xs : List Instr} → Stays m i next → IsTrimmedCode m next xs →
      IsTrimmedCode m (i ∷ next) (i ∷ xs)
  left_out : {i : Instr} {next xs : List Instr} → (Stays m i next → ⊥) →
      IsTrimmedCode m next xs → IsTrimmedCode m (i ∷ next) xs

abbrev pub reduced_to : Mach → List Instr → Mach
reduced_to m code = record m { code = code }

-- The second function is exactly what stays of the first.
pub record IsTrimmed (m q : Mach) : Type 0 where
  pub code : List Instr
  pub is : q ≡ reduced_to m code
  pub trimmed : IsTrimmedCode m m.code code
