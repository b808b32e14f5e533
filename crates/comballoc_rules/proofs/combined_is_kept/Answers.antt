use Rattle.comballoc_rules.proofs.Whole.{combined_kept}
use Rattle.comballoc_rules.proofs.combined_is_kept.Goals as goal

pub returns : goal.returns
returns c = combined_kept
