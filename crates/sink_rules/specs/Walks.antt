-- Where a register may have been written since the last call, and where it may not have been. A
-- call here is one that destroys every colour: no external call.
use Rattle.std.specs.Prelude.{◌≡◌, ℕ, List, ◌∷◌}
use Rattle.mach_ir.specs.Meaning.{Everything, destroyed_by}
use Rattle.mach_ir.specs.Walks.{AmongRegisters, Writes, WalkStep, Raises, StandsAsInstr}
use Rattle.mach_ir.specs.declared.mach.Instr.{Instr}
use Rattle.mach_ir.specs.declared.mach.Mach.{Mach}

-- Some walk leads to this code from a write of the register, and comes over no call and over no
-- entry of a handler: so it may be in the register and in no slot. A raise of a call comes to
-- the entry of the handler, and not over it.
pub data Fresh (m : Mach) (n : ℕ) : List Instr → Type 0 where
  written : {i : Instr} {next to : List Instr} → StandsAsInstr i next m.code → Writes m i n →
      WalkStep m i next to → Fresh m n to
  on : {i : Instr} {next to : List Instr} → Fresh m n (i ∷ next) →
      (destroyed_by i.op ≡ Everything → ⊥) → WalkStep m i next to → Fresh m n to
  aside : {i : Instr} {next to : List Instr} → Fresh m n (i ∷ next) → Raises m i next to →
      Fresh m n to

-- Some walk leads to this code from the entry, where it is no parameter, or from over a call or the
-- entry of a handler, and does not write the register: so it may hold nothing yet, or be in its
-- slot already. What an instruction writes is not written on the way to a handler.
-- A move that reads what no walk has written would be stuck where the function is not.
pub data Stale (m : Mach) (n : ℕ) : List Instr → Type 0 where
  at_entry : (AmongRegisters n m.params → ⊥) → Stale m n m.code
  over : {i : Instr} {next to : List Instr} → StandsAsInstr i next m.code →
      destroyed_by i.op ≡ Everything → (Writes m i n → ⊥) → WalkStep m i next to → Stale m n to
  on : {i : Instr} {next to : List Instr} → Stale m n (i ∷ next) → (Writes m i n → ⊥) →
      WalkStep m i next to → Stale m n to
  aside : {i : Instr} {next to : List Instr} → Stale m n (i ∷ next) → Raises m i next to →
      Stale m n to
