use Rattle.moved_trees.proofs.Rows.{row_once}
use Rattle.moved_trees.proofs.rows_know_no_places.Goals as goal

pub returns : goal.returns
returns c = row_once
