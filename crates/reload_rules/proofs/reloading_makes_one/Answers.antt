use Rattle.reload_rules.proofs.Together.{one_reloaded}
use Rattle.reload_rules.proofs.reloading_makes_one.Goals as goal

pub returns : goal.returns
returns c = one_reloaded
