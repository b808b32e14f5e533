use Rattle.spill_rules.proofs.Chosen.{chosen_plan}
use Rattle.spill_rules.proofs.a_chosen_plan_is_one.Goals as goal

pub returns : goal.returns
returns c = chosen_plan
