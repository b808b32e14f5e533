use Rattle.sink_rules.proofs.Whole.{sunk_kept}
use Rattle.sink_rules.proofs.moves_to_themselves_change_nothing.Goals as goal

pub returns : goal.returns
returns c = sunk_kept
