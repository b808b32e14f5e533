-- Room for what passes make of a function.
use Rattle.std.specs.Prelude.{ℕ, ◌+◌, ◌*◌, ◌<◌, ◌≤◌, All, length}
use Rattle.mach_ir.specs.Sizes.{Size}
use Rattle.mach_ir.specs.declared.reg.Reg.{Reg}
use Rattle.mach_ir.specs.declared.mach.Instr.{Instr}
use Rattle.mach_ir.specs.declared.mach.Mach.{Mach}

-- The bounds on what spilling, splitting, and splitting after spilling make, by those on the function and
-- the number of its parameters. Programs of rows call these passes on functions made by hand, of which no
-- law gives a size.
abbrev pub wide : ℕ → Size → Size
wide parameters s =
    record s {
      instrs = s.instrs + s.operands;
      operands = 3 * s.operands;
      registers = 2 * s.registers + (3 * s.operands + parameters);
    }

-- what is tested for: at most so many instructions, operands and results, parameters and labels, and lower
-- numbers of registers and of their origins
abbrev pub most : ℕ
most = 536870912

abbrev pub HasLowNumbers : Reg → Type 0
HasLowNumbers r = (r.number < most) × (r.origin < most)

pub record IsShort (m : Mach) : Type 0 where
  pub instrs : length m.code ≤ most
  pub params : length m.params ≤ most
  pub labels : m.labels ≤ most

pub record AreLow (m : Mach) : Type 0 where
  pub params : All HasLowNumbers m.params
  pub colours : All HasLowNumbers m.colours
  pub args : All (λ (i : Instr). All HasLowNumbers i.args) m.code
  pub results : All (λ (i : Instr). All HasLowNumbers i.results) m.code
