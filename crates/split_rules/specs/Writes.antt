-- Which writes of a register come to a place, and which of them are joined.
--
-- A write is known by the code after it. The entry writes the parameters: after it comes the whole
-- code of the function.
use Rattle.std.specs.Prelude.{ℕ, List, ◌∷◌}
use Rattle.mach_ir.specs.Walks.{AmongRegisters, Writes, WalkStep, Raises, Live, StandsAsInstr}
use Rattle.mach_ir.specs.declared.mach.Instr.{Instr}
use Rattle.mach_ir.specs.declared.mach.Mach.{Mach}

-- Some walk leads from this write of the register to this code, with no other write of it between.
-- A raise edge passes no write.
pub data WriteReaches (m : Mach) (n : ℕ) : List Instr → List Instr → Type 0 where
  from_entry : AmongRegisters n m.params → WriteReaches m n m.code m.code
  from_write : {i : Instr} {next to : List Instr} → StandsAsInstr i next m.code → Writes m i n →
      WalkStep m i next to → WriteReaches m n next to
  past : {i : Instr} {from next to : List Instr} → WriteReaches m n from (i ∷ next) →
      (Writes m i n → ⊥) → WalkStep m i next to → WriteReaches m n from to
  past_raise : {i : Instr} {from next to : List Instr} → WriteReaches m n from (i ∷ next) →
      Raises m i next to → WriteReaches m n from to

-- Two writes of a register are joined where there is a place at which it is live and to which both
-- come. So are those that a chain of joined ones connects.
pub data Chained (m : Mach) (n : ℕ) : List Instr → List Instr → Type 0 where
  same : {from : List Instr} → Chained m n from from
  meets : {from mid to rest : List Instr} → Live m n rest → WriteReaches m n from rest →
      WriteReaches m n mid rest → Chained m n mid to → Chained m n from to

-- the entry writes the parameters, an instruction what it writes
pub data IsWrite (m : Mach) (n : ℕ) : List Instr → Type 0 where
  by_entry : AmongRegisters n m.params → IsWrite m n m.code
  by_instr : {i : Instr} {next : List Instr} → StandsAsInstr i next m.code → Writes m i n →
      IsWrite m n next
