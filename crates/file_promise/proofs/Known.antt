-- What crates above use of those below, handed on: a line in crates.txt for each would cost the gate its start.
pub use Rattle.code_bounds.proofs.Bounded.{frame_fits}
-- of chained_functions.proofs.Chained, chained_functions.proofs.Rooms, placed_functions.proofs.Placed, selection_accepted.proofs.Promised, selection_accepted.proofs.Room, selection_accepted.proofs.Selecting
pub use Rattle.code_bounds.proofs.Known.{carried, definitions, function_accepted, line_room, placed_for, prepared_room, ready, selected_preparable, selected_room, selection_room, ordered_lines}
-- of chained_functions.proofs.Ordered
pub use Rattle.code_bounds.proofs.Known.{regular_in_order}
