use Rattle.unit_rules.proofs.Externals.{externals_merge}
use Rattle.unit_rules.proofs.externals_are_merged.Goals as goal

pub returns : goal.returns
returns c = externals_merge
