-- What crates above use of those below, handed on: a line in crates.txt for each would cost the gate its start.
pub use Rattle.rv_emit_rules.specs.Emitted.{part_of_line}
pub use Rattle.rv_emit_rules.specs.Entry.{FrameLayout}
pub use Rattle.rv_emit_rules.specs.Named.{IsExternalOf}
pub use Rattle.rv_emit_rules.specs.Units.{tests_first}
