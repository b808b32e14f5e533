use Rattle.spill_rules.proofs.Chosen.{kept_by}
use Rattle.spill_rules.proofs.spilling_changes_nothing.Goals as goal

pub returns : goal.returns
returns c = kept_by
