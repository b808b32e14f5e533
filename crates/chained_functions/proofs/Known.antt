-- What crates above use of those below, handed on: a line in crates.txt for each would cost the gate its start.
pub use Rattle.placed_functions.proofs.Exits.{selected_exits}
pub use Rattle.placed_functions.proofs.Placed.{carried, placed_for, prepared_room, ready, selected_preparable, selected_room}
pub use Rattle.placed_functions.proofs.Tries.{few_nest}
