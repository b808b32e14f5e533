use Rattle.moved_trees.proofs.Rows.{calls_once}
use Rattle.moved_trees.proofs.external_calls_know_no_places.Goals as goal

pub returns : goal.returns
returns c = calls_once
