use Rattle.sink_rules.proofs.Chosen.{a_plan}
use Rattle.sink_rules.proofs.a_chosen_plan_is_one.Goals as goal

pub returns : goal.returns
returns c = a_plan
