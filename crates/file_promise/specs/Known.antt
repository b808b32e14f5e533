-- What crates above use of those below, handed on: a line in crates.txt for each would cost the gate its start.
-- of placed_functions.specs.Placed, selection_promise.specs.Selects
pub use Rattle.code_bounds.specs.Known.{IsAccepted, IsPlacedFor}
-- of made_functions.specs.Exact, made_functions.specs.Files, made_functions.specs.Made
pub use Rattle.made_once.specs.Known.{AreTablesMadeFor, IsExact, IsFunctionMade, in_order}
