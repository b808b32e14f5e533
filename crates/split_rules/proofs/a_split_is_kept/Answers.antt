use Rattle.split_rules.proofs.Whole.{split_kept}
use Rattle.split_rules.proofs.a_split_is_kept.Goals as goal

pub returns : goal.returns
returns c = split_kept
