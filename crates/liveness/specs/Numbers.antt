-- Numbers above those of registers.
use Rattle.std.specs.Prelude.{ℕ, ◌<◌, ◌≤◌, List, All}
use Rattle.mach_ir.specs.Walks.{InCode}
use Rattle.mach_ir.specs.declared.reg.Reg.{Reg}
use Rattle.mach_ir.specs.declared.mach.Instr.{Instr}

-- the least number that is not below a bound, and above those of these registers
pub record IsLeastAbove (bound : ℕ) (regs : List Reg) (n : ℕ) : Type 0 where
  pub above : bound ≤ n
  pub all : All (λ (r : Reg). r.number < n) regs
  pub least : (b : ℕ) → bound ≤ b → All (λ (r : Reg). r.number < b) regs → n ≤ b

-- the same of those in a code
pub record IsAboveCode (bound : ℕ) (code : List Instr) (n : ℕ) : Type 0 where
  pub above : bound ≤ n
  pub all : (r : Reg) → InCode r code → r.number < n
  pub least : (b : ℕ) → bound ≤ b → ((r : Reg) → InCode r code → r.number < b) → n ≤ b
