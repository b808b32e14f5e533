-- What crates above use of those below, handed on: a line in crates.txt for each would cost the gate its start.
pub use Rattle.selection_accepted.proofs.Beginning.{front_memory}
-- of selection_walks.proofs.Keeps
pub use Rattle.selection_accepted.proofs.Known.{accepted_keeps, accepted_proper}
pub use Rattle.selection_accepted.proofs.Promised.{front_selects, front_setting}
pub use Rattle.selection_accepted.proofs.Selecting.{definitions, front_accepts, selectable, selectable_at}
pub use Rattle.selection_accepted.proofs.Symbols.{front_symbols}
