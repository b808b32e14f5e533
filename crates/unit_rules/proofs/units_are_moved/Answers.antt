use Rattle.unit_rules.proofs.Moved.{code_moves}
use Rattle.unit_rules.proofs.units_are_moved.Goals as goal

pub returns : goal.returns
returns c = code_moves
