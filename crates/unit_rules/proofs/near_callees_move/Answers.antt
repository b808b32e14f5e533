use Rattle.unit_rules.proofs.Callees.{callees_move}
use Rattle.unit_rules.proofs.near_callees_move.Goals as goal

pub returns : goal.returns
returns c = λ far d symbol named ps forms moves suffice. callees_move far d symbol named moves ps forms suffice
