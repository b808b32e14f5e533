-- What crates above use of those below, handed on: a line in crates.txt for each would cost the gate its start.
-- of accepted_files.proofs.Files
pub use Rattle.first_statics.proofs.Known.{file_can}
-- of laid_files.proofs.Laid
pub use Rattle.function_stands.proofs.Known.{function_can}
