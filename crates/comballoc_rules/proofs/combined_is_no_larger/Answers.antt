use Rattle.comballoc_rules.proofs.Whole.{combined_smaller}
use Rattle.comballoc_rules.proofs.combined_is_no_larger.Goals as goal

pub returns : goal.returns
returns c = combined_smaller
