use Rattle.placed_functions.proofs.Placed.{placed_for}
use Rattle.placed_functions.proofs.prepared_functions_are_placed.Goals as goal

pub returns : goal.returns
returns c = λ alloc defined tree p q accepted is allocated. placed_for accepted is allocated
