-- What crates above use of those below, handed on: a line in crates.txt for each would cost the gate its start.
-- of placed_functions.specs.Placed
pub use Rattle.chained_functions.specs.Known.{IsPlacedFor}
-- of selection_promise.specs.Selects
pub use Rattle.selection_accepted.specs.Known.{IsAccepted}
