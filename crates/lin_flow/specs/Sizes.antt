-- How large a Linear function is, in what numbers count of it.
use Rattle.std.specs.Prelude.{◌+◌, ◌<◌, List, length, All}
use Rattle.mach_ir.specs.Sizes.{number_limit}
use Rattle.lin_ir.specs.declared.lin.Spot.{Spot}
use Rattle.lin_ir.specs.declared.lin.Lin.{Lin}
use Rattle.lin_laws.specs.Numbers.{number_of_location}

-- There are numbers for the lines of a function, and for its slots after those of the registers.
pub record IsCountable (m : Lin) : Type 0 where
  pub lines : length m.code < number_limit
  pub slots : m.slots + 32 < number_limit

-- the numbers of these locations fit
abbrev pub HaveSmall : List Spot → Type 0
HaveSmall spots = All (λ (s : Spot). number_of_location s.loc < number_limit) spots
