use Rattle.cut_rules.proofs.Cut.{cut_kept}
use Rattle.cut_rules.proofs.what_is_cut_is_kept.Goals as goal

pub returns : goal.returns
returns c = cut_kept
