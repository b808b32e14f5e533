use Rattle.hoist_rules.proofs.Carried.{hoisted_kept}
use Rattle.hoist_rules.proofs.what_is_hoisted_is_kept.Goals as goal

pub returns : goal.returns
returns c = hoisted_kept
