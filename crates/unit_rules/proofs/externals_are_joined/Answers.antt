use Rattle.unit_rules.proofs.Externals.{firsts_both}
use Rattle.unit_rules.proofs.externals_are_joined.Goals as goal

pub returns : goal.returns
returns c = firsts_both
