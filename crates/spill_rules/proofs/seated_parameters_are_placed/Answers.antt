use Rattle.spill_rules.proofs.Chosen.{seated_params}
use Rattle.spill_rules.proofs.seated_parameters_are_placed.Goals as goal

pub returns : goal.returns
returns c = seated_params
