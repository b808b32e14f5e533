use Rattle.colouring.proofs.Ordered.{one_colouring}
use Rattle.colouring.proofs.colours_are_one.Goals as goal

pub returns : goal.returns
returns c = one_colouring
