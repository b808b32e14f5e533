use Rattle.moved_data.proofs.Placed.{end_of_moves}
use Rattle.moved_data.proofs.end_of_lists_is_moved.Goals as goal

pub returns : goal.returns
returns c = end_of_moves
