-- What crates above use of those below, handed on: a line in crates.txt for each would cost the gate its start.
pub use Rattle.made_functions.specs.Bounded.{IsBoundedBy}
pub use Rattle.made_functions.specs.Files.{IsFunctionMade}
-- of lin_pass.specs.Linear
pub use Rattle.made_functions.specs.Known.{IsLinearOf, IsSlotOf, NamesHomes, OneForEach}
pub use Rattle.made_functions.specs.Made.{IsMadeOf, in_order}
pub use Rattle.placed_functions.specs.Placed.{IsPlacedFor}
