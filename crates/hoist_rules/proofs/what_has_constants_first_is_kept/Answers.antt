use Rattle.hoist_rules.proofs.Chosen.{constants_first_kept}
use Rattle.hoist_rules.proofs.what_has_constants_first_is_kept.Goals as goal

pub returns : goal.returns
returns c = constants_first_kept
