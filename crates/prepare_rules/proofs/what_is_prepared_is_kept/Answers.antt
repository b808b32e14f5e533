use Rattle.prepare_rules.proofs.Whole.{prepared_kept}
use Rattle.prepare_rules.proofs.what_is_prepared_is_kept.Goals as goal

pub returns : goal.returns
returns c = prepared_kept
