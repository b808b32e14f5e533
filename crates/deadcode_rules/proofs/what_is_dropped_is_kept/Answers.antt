use Rattle.deadcode_rules.proofs.Whole.{dropped_kept}
use Rattle.deadcode_rules.proofs.what_is_dropped_is_kept.Goals as goal

pub returns : goal.returns
returns c = dropped_kept
