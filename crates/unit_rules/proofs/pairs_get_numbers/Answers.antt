use Rattle.unit_rules.proofs.Moved.{pair_gets}
use Rattle.unit_rules.proofs.pairs_get_numbers.Goals as goal

pub returns : goal.returns
returns c = pair_gets
