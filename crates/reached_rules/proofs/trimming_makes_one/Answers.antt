use Rattle.reached_rules.proofs.Kept.{one_trimmed}
use Rattle.reached_rules.proofs.trimming_makes_one.Goals as goal

pub returns : goal.returns
returns c = one_trimmed
