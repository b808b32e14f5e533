use Rattle.moved_data.proofs.Placed.{unit_begins}
use Rattle.moved_data.proofs.units_begin_at_multiples.Goals as goal

pub returns : goal.returns
returns c = unit_begins
