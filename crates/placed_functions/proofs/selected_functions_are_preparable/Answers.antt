use Rattle.placed_functions.proofs.Placed.{selected_preparable}
use Rattle.placed_functions.proofs.selected_functions_are_preparable.Goals as goal

pub returns : goal.returns
returns c = λ defined tree accepted. selected_preparable accepted
