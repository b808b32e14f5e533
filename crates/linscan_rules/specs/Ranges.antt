-- Where a register of a Mach function is, and its interval: the places where it is read or written,
-- or live before or after, and all between.
use Rattle.std.specs.Prelude.{◌≡◌, ℕ, ◌≤◌, List, ◌∷◌, drop}
use Rattle.mach_ir.specs.Walks.{AmongRegisters, Writes, Live, LiveAfter}
use Rattle.mach_ir.specs.declared.mach.Instr.{Instr}
use Rattle.mach_ir.specs.declared.mach.Mach.{Mach}

-- A place is that of an instruction, numbered from 0 in the order of the text. The entry writes the
-- parameters, at the first place. What an instruction destroys, it writes. Where one raises, what
-- is live at the handler is live before it.
pub data IsAtPlace (m : Mach) (n : ℕ) : ℕ → Type 0 where
  at_entry : AmongRegisters n m.params → IsAtPlace m n 0
  reads : (p : ℕ) (i : Instr) (next : List Instr) → drop p m.code ≡ i ∷ next →
      AmongRegisters n i.args → IsAtPlace m n p
  writes : (p : ℕ) (i : Instr) (next : List Instr) → drop p m.code ≡ i ∷ next → Writes m i n →
      IsAtPlace m n p
  before : (p : ℕ) (i : Instr) (next : List Instr) → drop p m.code ≡ i ∷ next →
      Live m n (i ∷ next) → IsAtPlace m n p
  after : (p : ℕ) (i : Instr) (next : List Instr) → drop p m.code ≡ i ∷ next →
      LiveAfter m n i next → IsAtPlace m n p

-- the least range that has every place of a register: the two ends are among them
pub record IsInterval (m : Mach) (n from to : ℕ) : Type 0 where
  pub first : IsAtPlace m n from
  pub last : IsAtPlace m n to
  pub least : (p : ℕ) → IsAtPlace m n p → from ≤ p
  pub most : (p : ℕ) → IsAtPlace m n p → p ≤ to

-- two ranges share a place
abbrev pub Overlap : ℕ → ℕ → ℕ → ℕ → Type 0
Overlap from to other_from other_to = (from ≤ other_to) × (other_from ≤ to)
