-- What is kept of a function whose open registers go to the slots of their origins.
use Rattle.std.specs.Prelude.{ℕ}
use Rattle.mach_ir.specs.Placed.{FullyPlaced}
use Rattle.mach_ir.specs.Sizes.{Size, HasSize, OpenAtMost}
use Rattle.mach_ir.specs.declared.mach.Mach.{Mach}
use Rattle.colouring_rules.specs.Places.{SlotsGrow}
use Rattle.mach_laws.specs.Passes.{IsPassKept}

pub record IsRestKept (p q : Mach) : Type 0 where
  pub pass : IsPassKept p q
  -- each register has a place, and joined ones are apart
  pub placed : FullyPlaced q
  pub size : (s : Size) → HasSize p s → HasSize q s
  -- at most as many slots are new as registers were open
  pub slots : (open_ones : ℕ) → OpenAtMost p open_ones → SlotsGrow p q open_ones
