-- What crates above use of those below, handed on: a line in crates.txt for each would cost the gate its start.
-- of lin_tidy_rules.specs.Regular
pub use Rattle.lin_tidy.specs.Known.{IsRegular, IsTidy}
