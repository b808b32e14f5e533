-- What crates above use of those below, handed on: a line in crates.txt for each would cost the gate its start.
pub use Rattle.pass_rules.proofs.Carried.{ends_second, returns_alone}
pub use Rattle.pass_rules.proofs.Operands.{others_few}
pub use Rattle.pass_rules.proofs.Words.{at_most_copy, words_append}
