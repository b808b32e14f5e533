-- What crates above use of those below, handed on: a line in crates.txt for each would cost the gate its start.
pub use Rattle.selection_walks.proofs.Keeps.{accepted_keeps, accepted_proper}
-- of selection_laws.proofs.Accepting, selection_laws.proofs.Widths
pub use Rattle.selection_walks.proofs.Known.{accepted_fits, few_numbers, holds_if, left, right}
