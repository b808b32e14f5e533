use Rattle.reached_rules.proofs.Kept.{trimmed_kept}
use Rattle.reached_rules.proofs.what_is_trimmed_is_kept.Goals as goal

pub returns : goal.returns
returns c = trimmed_kept
