use Rattle.hoist_rules.proofs.Chosen.{one_constants_first}
use Rattle.hoist_rules.proofs.constants_first_are_one.Goals as goal

pub returns : goal.returns
returns c = one_constants_first
