use Rattle.placed_functions.proofs.Placed.{placed_for}
use Rattle.chained_functions.proofs.Chained.{ordered_depth}
use Rattle.chained_functions.proofs.traps_are_few.Goals as goal

pub returns : goal.returns
returns c choices defined tree m ds pieces accepted made =
    ordered_depth accepted (placed_for accepted made.is_prepared made.allocated) made.linear choices.order made.ordered
