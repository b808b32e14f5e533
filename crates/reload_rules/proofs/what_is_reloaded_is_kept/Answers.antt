use Rattle.reload_rules.proofs.Together.{reloaded_kept}
use Rattle.reload_rules.proofs.what_is_reloaded_is_kept.Goals as goal

pub returns : goal.returns
returns c = reloaded_kept
