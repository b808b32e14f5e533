-- The registers of a function by number.
use Rattle.std.specs.Prelude.{◌≡◌, ◌⊎◌, ℕ, List, Option, Some, None, length, slice_index_or}
use Rattle.mach_ir.specs.Walks.{IsRegister}
use Rattle.mach_ir.specs.declared.reg.Reg.{Reg}
use Rattle.mach_ir.specs.declared.mach.Mach.{Mach}

-- the register that a table has at a number
abbrev pub IsRegisterAt : List (Option Reg) → ℕ → Reg → Type 0
IsRegisterAt table n r = slice_index_or table n None ≡ Some r

-- some register is there
pub record HasOne (table : List (Option Reg)) (n : ℕ) : Type 0 where
  pub register : Reg
  pub there : IsRegisterAt table n register

-- These registers have come to their numbers.
pub record Enters (old new : List (Option Reg)) (AreNew : Reg → Type 0) : Type 0 where
  pub len : length new ≡ length old
  pub kept : (n : ℕ) → HasOne old n → HasOne new n
  pub sound : (n : ℕ) (r : Reg) → IsRegisterAt new n r → IsRegisterAt old n r ⊎ ((r.number ≡ n) × AreNew r)
  pub whole : (r : Reg) → AreNew r → HasOne new r.number

-- at each number one of the function's registers with that number, where there is one
pub record AreNumberedRegisters (m : Mach) (size : ℕ) (table : List (Option Reg)) : Type 0 where
  pub len : length table ≡ size
  pub sound : (n : ℕ) (r : Reg) → IsRegisterAt table n r → (r.number ≡ n) × IsRegister m r
  pub whole : (r : Reg) → IsRegister m r → HasOne table r.number
