-- What crates above use of those below, handed on: a line in crates.txt for each would cost the gate its start.
pub use Rattle.file_promise.proofs.Bytes.{all_bytes, bytes_of}
pub use Rattle.file_promise.proofs.Made.{few_functions}
pub use Rattle.file_promise.proofs.Once.{made_for_once}
