-- What crates above use of those below, handed on: a line in crates.txt for each would cost the gate its start.
pub use Rattle.accepted_files.proofs.Defined.{given_data}
pub use Rattle.accepted_files.proofs.Files.{file_can}
-- of selection_accepted.proofs.Beginning, selection_accepted.proofs.Promised, selection_accepted.proofs.Selecting, selection_accepted.proofs.Symbols, selection_walks.proofs.Keeps
pub use Rattle.accepted_files.proofs.Known.{accepted_keeps, accepted_proper, definitions, front_accepts, front_memory, front_setting, front_symbols, selectable, selectable_at}
