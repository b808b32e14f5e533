use Rattle.sink_rules.proofs.Chosen.{kept}
use Rattle.sink_rules.proofs.what_is_sunk_is_kept.Goals as goal

pub returns : goal.returns
returns c = kept
