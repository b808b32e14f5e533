-- What crates above use of those below, handed on: a line in crates.txt for each would cost the gate its start.
pub use Rattle.hoist_rules.specs.Chosen.{HasConstantsFirst}
