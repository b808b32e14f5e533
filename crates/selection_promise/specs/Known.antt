-- What crates above use of those below, handed on: a line in crates.txt for each would cost the gate its start.
-- of selection_laws.specs.Accepted, selection_laws.specs.Fits, selection_places.specs.Names
pub use Rattle.selection_walks.specs.Known.{ACall, ASymbol, Accepted, BoundHaveCases, BoundNames, CasesHaveCases, CasesName, FunctionFits, HandlersHaveCases, HandlersName, HaveCases, Names, RowHaveCases, RowNames}
