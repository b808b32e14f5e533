-- What crates above use of those below, handed on: a line in crates.txt for each would cost the gate its start.
-- of made_functions.specs.Files
pub use Rattle.file_compile.specs.Known.{AreTablesMadeFor}
