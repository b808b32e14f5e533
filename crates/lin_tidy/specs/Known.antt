-- What crates above use of those below, handed on: a line in crates.txt for each would cost the gate its start.
pub use Rattle.lin_tidy_rules.specs.Redirecting.{Tidies}
pub use Rattle.lin_tidy_rules.specs.Regular.{AtHomes, IsRegular, IsTidy}
pub use Rattle.lin_tidy_rules.specs.Tidied.{IsTidied}
