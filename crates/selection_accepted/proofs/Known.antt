-- What crates above use of those below, handed on: a line in crates.txt for each would cost the gate its start.
-- of selection_walks.proofs.Keeps
pub use Rattle.selection_promise.proofs.Known.{accepted_keeps, accepted_proper}
pub use Rattle.selection_promise.proofs.Promised.{few_tokens, promised}
