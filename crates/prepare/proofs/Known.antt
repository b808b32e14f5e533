-- What crates above use of those below, handed on: a line in crates.txt for each would cost the gate its start.
pub use Rattle.prepare_rules.proofs.Whole.{dropped_passed, one_passed, one_prepared, passed, prepared, repeated_passed, spilled_passed}
