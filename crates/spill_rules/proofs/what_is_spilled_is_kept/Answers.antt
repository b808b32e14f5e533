use Rattle.spill_rules.proofs.Chosen.{spilled_kept}
use Rattle.spill_rules.proofs.what_is_spilled_is_kept.Goals as goal

pub returns : goal.returns
returns c = spilled_kept
