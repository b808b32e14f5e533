-- What crates above use of those below, handed on: a line in crates.txt for each would cost the gate its start.
pub use Rattle.text_commands.proofs.Called.{call_unfit, named_none}
-- of file_promise.proofs.Bytes, file_promise.proofs.Made, file_promise.proofs.Once
pub use Rattle.text_commands.proofs.Known.{bytes_of, few_functions, made_for_once}
