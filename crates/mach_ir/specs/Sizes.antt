-- How large a Mach function is, in the measures by which passes say how it grows.
use Rattle.std.specs.Prelude.{◌≡◌, ℕ, suc, ◌+◌, ◌<◌, ◌≤◌, List, [], ◌∷◌, length, Contains}
use Rattle.bs_words.specs.declared.types.Loc.TheVariants as loc
use Rattle.mach_ir.specs.Walks.{IsRegister}
use Rattle.mach_ir.specs.declared.reg.Reg.{Reg}
use Rattle.mach_ir.specs.declared.mach.Instr.{Instr}
use Rattle.mach_ir.specs.declared.mach.Mach.{Mach}

-- the operands and results of a code: reloading makes at most one register for each
abbrev pub operand_count : List Instr → ℕ
operand_count [] = 0
operand_count (i ∷ is) = length i.args + length i.results + operand_count is

-- Bounds on a function: how many instructions it has, how many operands and results, below which
-- number those of its registers and their origins are, and below which its labels.
pub record Size : Type 0 where
  pub instrs : ℕ
  pub operands : ℕ
  pub registers : ℕ
  pub labels : ℕ

pub record HasSize (m : Mach) (s : Size) : Type 0 where
  pub instrs : length m.code ≤ s.instrs
  pub operands : operand_count m.code ≤ s.operands
  pub numbers : (r : Reg) → IsRegister m r → r.number < s.registers
  pub origins : (r : Reg) → IsRegister m r → r.origin < s.registers
  pub labels : m.labels ≤ s.labels

-- numbers of 32 bits are below this
abbrev pub number_limit : ℕ
number_limit = 4294967296

-- There are numbers of 32 bits for the places of a code, of which one comes after its last instruction,
-- for its operands and results, for its registers and for its labels.
pub record IsSmallSize (s : Size) : Type 0 where
  pub places : suc s.instrs < number_limit
  pub operands : s.operands < number_limit
  pub registers : s.registers < number_limit
  pub labels : s.labels < number_limit

-- The function keeps bounds that are small even once they have grown so: there are numbers for it, and
-- for what a pass adds.
pub record HasRoom (grown : Size → Size) (m : Mach) : Type 0 where
  pub size : Size
  pub within : HasSize m size
  pub small : IsSmallSize (grown size)

-- there are numbers for all that it has
abbrev pub IsCountable : Mach → Type 0
IsCountable m = HasRoom (λ s. s) m

-- At most k registers have an open place.
pub record OpenAtMost (m : Mach) (k : ℕ) : Type 0 where
  pub numbers : List ℕ
  pub few : length numbers ≤ k
  pub all : (r : Reg) → IsRegister m r → r.loc ≡ loc.Unset → Contains numbers r.number
