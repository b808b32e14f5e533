-- What crates above use of those below, handed on: a line in crates.txt for each would cost the gate its start.
-- of file_promise.proofs.Made
pub use Rattle.commands.proofs.Known.{few_functions}
