-- What crates above use of those below, handed on: a line in crates.txt for each would cost the gate its start.
pub use Rattle.lin_pass.proofs.Named.{all_homes}
pub use Rattle.lin_pass.proofs.Once.{linear_once}
pub use Rattle.prepare_rules.proofs.Whole.{one_prepared}
pub use Rattle.reg_rounds_rules.proofs.Once.{allocated_once}
