-- What crates above use of those below, handed on: a line in crates.txt for each would cost the gate its start.
-- of file_promise.proofs.Bytes, file_promise.proofs.Made, file_promise.proofs.Once
pub use Rattle.file_compile.proofs.Known.{all_bytes, bytes_of, few_functions, made_for_once}
