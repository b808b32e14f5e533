-- What a function keeps whose slots are reloaded.
use Rattle.std.specs.Prelude.{◌≡◌, ℕ, ◌+◌, ◌*◌, Bool, false}
use Rattle.mach_ir.specs.Placed.{FullyPlaced}
use Rattle.mach_ir.specs.Sizes.{Size, HasSize, OpenAtMost}
use Rattle.mach_ir.specs.declared.mach.Mach.{Mach}
use Rattle.pass_rules.specs.Measures.{other_operands}
use Rattle.colouring_rules.specs.Places.{ColoursLow, SlotsGrow}
use Rattle.reload_rules.specs.Reloaded.{any_needs}
use Rattle.mach_laws.specs.Passes.{IsPassKept}

-- so many copies more, each with an operand, a result and a register of its own
abbrev pub with_copies : (copies : ℕ) → Size → Size
with_copies n s =
    record s { instrs = s.instrs + n; operands = s.operands + 2 * n; registers = s.registers + n }

pub record IsReloadKept (m q : Mach) (asks : Bool) : Type 0 where
  pub pass : IsPassKept m q
  -- each register has a place, where no other round is asked for
  pub all_placed : asks ≡ false → FullyPlaced q
  pub colours_low : ColoursLow q
  -- no operand or result of an operation other than a copy is in a slot
  pub in_registers : any_needs q.code ≡ false
  -- at most a copy and a register for each operand and result of another instruction than a copy
  pub size : (s : Size) → HasSize m s → HasSize q (with_copies (other_operands m.code) s)
  -- at most as many slots are new as registers were open
  pub slots : (open_ones : ℕ) → OpenAtMost m open_ones → SlotsGrow m q open_ones
