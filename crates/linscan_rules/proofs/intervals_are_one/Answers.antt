use Rattle.linscan_rules.proofs.Sharing.{interval_once}
use Rattle.linscan_rules.proofs.intervals_are_one.Goals as goal

pub returns : goal.returns
returns c = λ m n from to other_from other_to one two. interval_once m n from to other_from other_to one two
