use Rattle.colouring_rules.proofs.Colouring.{coloured_kept}
use Rattle.colouring_rules.proofs.a_colouring_is_kept.Goals as goal

pub returns : goal.returns
returns c = λ m place formed well low is. coloured_kept m place formed well is low
