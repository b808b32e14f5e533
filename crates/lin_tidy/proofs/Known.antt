-- What crates above use of those below, handed on: a line in crates.txt for each would cost the gate its start.
pub use Rattle.lin_tidy_rules.proofs.Following.{tidied_tidies}
pub use Rattle.lin_tidy_rules.proofs.Keeping.{keeps_tidied}
pub use Rattle.lin_tidy_rules.proofs.Living.{live_home}
pub use Rattle.lin_tidy_rules.proofs.Lowered.{lowered_regular}
pub use Rattle.lin_tidy_rules.proofs.Once.{tidied_once}
pub use Rattle.lin_tidy_rules.proofs.Sizes.{KeepsShape, tidied_shape, turned_shape, ways_few}
pub use Rattle.lin_tidy_rules.proofs.Tidied.{tidied_regular}
pub use Rattle.lin_tidy_rules.proofs.Whole.{tidied_keeps, tidied_no_addr, tidy_tight}
