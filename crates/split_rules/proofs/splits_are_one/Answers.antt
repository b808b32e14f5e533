use Rattle.split_rules.proofs.One.{one_split}
use Rattle.split_rules.proofs.splits_are_one.Goals as goal

pub returns : goal.returns
returns c = one_split
