-- What every pass over Mach owes of the function that it makes of another.
use Rattle.std.specs.Prelude.{◌≡◌}
use Rattle.mach_ir.specs.Formed.{WellFormed}
use Rattle.mach_ir.specs.Keeps.{Keeps}
use Rattle.mach_ir.specs.Placed.{WellPlaced}
use Rattle.mach_ir.specs.Seats.{Seated}
use Rattle.mach_ir.specs.Sizes.{Size, HasSize}
use Rattle.mach_ir.specs.Walks.{IsRegister}
use Rattle.mach_ir.specs.declared.mach.Mach.{Mach}
use Rattle.mach_ir.specs.declared.reg.Reg.{Reg}

pub record IsPassKept (m q : Mach) : Type 0 where
  -- it does the same, and no addr is live after a frame point where none was
  pub keeps : Keeps m q
  pub formed : WellFormed q
  -- no two registers are joined at fixed places that were not before
  pub placed : WellPlaced m → WellPlaced q
  pub seated : Seated m → Seated q

-- The second is no larger, and none of its registers is new: so none gets a place.
pub record IsNoLarger (m q : Mach) : Type 0 where
  pub params : q.params ≡ m.params
  pub registers : (r : Reg) → IsRegister q r → IsRegister m r
  pub size : (s : Size) → HasSize m s → HasSize q s
