use Rattle.unit_rules.proofs.Moved.{built_in_stays}
use Rattle.unit_rules.proofs.the_built_in_symbol_stays.Goals as goal

pub returns : goal.returns
returns c = built_in_stays
