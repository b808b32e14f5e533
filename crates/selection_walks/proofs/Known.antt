-- What crates above use of those below, handed on: a line in crates.txt for each would cost the gate its start.
pub use Rattle.selection_laws.proofs.Accepting.{accepted_fits, holds_if, left, right}
pub use Rattle.selection_laws.proofs.Proper.{selected_seated}
pub use Rattle.selection_laws.proofs.Widths.{few_numbers}
pub use Rattle.selection_places.proofs.Formed.{selected_well_formed}
pub use Rattle.selection_places.proofs.Fresh.{selected_allocates, selected_starts}
pub use Rattle.selection_places.proofs.NamedOnes.{selected_externals, selected_symbols}
pub use Rattle.selection_places.proofs.Opens.{selected_open_by_tokens}
pub use Rattle.selection_places.proofs.Placed.{selected_placed}
pub use Rattle.selection_places.proofs.Small.{selected_no_slot, selected_small}
pub use Rattle.selection_places.proofs.Whole.{env_of, params_of, selected_origin, value_at}
