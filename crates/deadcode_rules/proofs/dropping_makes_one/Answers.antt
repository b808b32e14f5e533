use Rattle.deadcode_rules.proofs.Whole.{one_dropped}
use Rattle.deadcode_rules.proofs.dropping_makes_one.Goals as goal

pub returns : goal.returns
returns c = one_dropped
