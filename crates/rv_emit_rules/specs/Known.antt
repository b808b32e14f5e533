-- What crates above use of those below, handed on: a line in crates.txt for each would cost the gate its start.
pub use Rattle.lin_ir.specs.declared.descr.Descr.{Descr}
