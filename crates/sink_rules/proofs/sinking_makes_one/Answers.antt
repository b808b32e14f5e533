use Rattle.sink_rules.proofs.Chosen.{one_sunk}
use Rattle.sink_rules.proofs.sinking_makes_one.Goals as goal

pub returns : goal.returns
returns c = one_sunk
