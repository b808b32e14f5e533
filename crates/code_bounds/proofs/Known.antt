-- What crates above use of those below, handed on: a line in crates.txt for each would cost the gate its start.
pub use Rattle.chained_functions.proofs.Chained.{chained, ordered_lines}
-- of placed_functions.proofs.Placed
pub use Rattle.chained_functions.proofs.Known.{carried, placed_for, prepared_room, ready, selected_preparable, selected_room}
pub use Rattle.chained_functions.proofs.Ordered.{regular_in_order}
pub use Rattle.chained_functions.proofs.Rooms.{line_room}
pub use Rattle.selection_accepted.proofs.Promised.{function_accepted}
pub use Rattle.selection_accepted.proofs.Room.{selection_room}
pub use Rattle.selection_accepted.proofs.Selecting.{definitions}
