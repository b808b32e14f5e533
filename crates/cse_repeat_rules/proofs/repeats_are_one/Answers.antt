use Rattle.cse_repeat_rules.proofs.One.{one_repeated}
use Rattle.cse_repeat_rules.proofs.repeats_are_one.Goals as goal

pub returns : goal.returns
returns c = one_repeated
