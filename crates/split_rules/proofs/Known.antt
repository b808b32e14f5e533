-- What crates above use of those below, handed on: a line in crates.txt for each would cost the gate its start.
pub use Rattle.colouring_rules.proofs.Files.{PutsBoth, cleared, not_cleared, past_same, put_both, put_here, values_same}
pub use Rattle.colouring_rules.proofs.Lists.{was}
pub use Rattle.colouring_rules.proofs.Open.{machine_open, machine_slot}
pub use Rattle.colouring_rules.proofs.Walked.{colour_place}
