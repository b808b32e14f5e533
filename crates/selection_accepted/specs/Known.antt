-- What crates above use of those below, handed on: a line in crates.txt for each would cost the gate its start.
-- of selection_places.specs.Names
pub use Rattle.selection_promise.specs.Known.{ACall, ASymbol, BoundNames, CasesName, HandlersName, Names, RowNames}
pub use Rattle.selection_promise.specs.Selects.{IsAccepted, Selects}
