-- What crates above use of those below, handed on: a line in crates.txt for each would cost the gate its start.
-- of made_functions.specs.Chained
pub use Rattle.laid_files.specs.Known.{IsChained}
pub use Rattle.line_calls.specs.Laws.{frame_in}
pub use Rattle.line_calls.specs.Points.{IsReadyFor, before_service}
