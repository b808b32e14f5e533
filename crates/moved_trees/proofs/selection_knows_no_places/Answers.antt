use Rattle.moved_trees.proofs.Codes.{selected_once}
use Rattle.moved_trees.proofs.selection_knows_no_places.Goals as goal

pub returns : goal.returns
returns c = selected_once
