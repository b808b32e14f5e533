use Rattle.colouring.proofs.Fold.{others_unset}
use Rattle.colouring.proofs.others_are_unset.Goals as goal

pub returns : goal.returns
returns c = others_unset
