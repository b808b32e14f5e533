-- What crates above use of those below, handed on: a line in crates.txt for each would cost the gate its start.
pub use Rattle.prepare_rules.specs.Prepared.{IsPreparable, IsPreparedMach, prepared_size}
pub use Rattle.prepare_rules.specs.Stages.{IsOverMach, IsPassedTo, combines, selects}
