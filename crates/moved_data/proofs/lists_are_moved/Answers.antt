use Rattle.moved_data.proofs.Placed.{lists_move}
use Rattle.moved_data.proofs.lists_are_moved.Goals as goal

pub returns : goal.returns
returns c = lists_move
