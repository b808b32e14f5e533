-- What crates above use of those below, handed on: a line in crates.txt for each would cost the gate its start.
pub use Rattle.selection_laws.specs.Accepted.{Accepted, BoundHaveCases, CasesHaveCases, HandlersHaveCases, HaveCases, RowHaveCases}
pub use Rattle.selection_laws.specs.Fits.{FunctionFits}
pub use Rattle.selection_places.specs.Names.{ACall, ASymbol, BoundNames, CasesName, FunctionCalls, FunctionNames, HandlersName, Names, RowNames}
