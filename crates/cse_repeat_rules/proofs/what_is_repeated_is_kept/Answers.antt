use Rattle.cse_repeat_rules.proofs.Whole.{repeated_kept}
use Rattle.cse_repeat_rules.proofs.what_is_repeated_is_kept.Goals as goal

pub returns : goal.returns
returns c = repeated_kept
