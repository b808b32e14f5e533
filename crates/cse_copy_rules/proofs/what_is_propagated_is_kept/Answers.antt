use Rattle.cse_copy_rules.proofs.Whole.{propagated_kept}
use Rattle.cse_copy_rules.proofs.what_is_propagated_is_kept.Goals as goal

pub returns : goal.returns
returns c = propagated_kept
