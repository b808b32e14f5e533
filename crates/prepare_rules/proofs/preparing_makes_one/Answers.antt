use Rattle.prepare_rules.proofs.Whole.{one_prepared}
use Rattle.prepare_rules.proofs.preparing_makes_one.Goals as goal

pub returns : goal.returns
returns c = one_prepared
