-- What crates above use of those below, handed on: a line in crates.txt for each would cost the gate its start.
pub use Rattle.made_functions.specs.Chained.{IsChained}
pub use Rattle.made_functions.specs.Exact.{IsExact, IsFunctionExact}
pub use Rattle.made_functions.specs.Files.{AreTablesMadeFor, IsFunctionMade}
pub use Rattle.made_functions.specs.Made.{in_order}
