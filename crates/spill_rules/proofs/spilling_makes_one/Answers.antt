use Rattle.spill_rules.proofs.Chosen.{one_spilled}
use Rattle.spill_rules.proofs.spilling_makes_one.Goals as goal

pub returns : goal.returns
returns c = one_spilled
