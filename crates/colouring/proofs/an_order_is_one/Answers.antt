use Rattle.colouring.proofs.Ordered.{order_is_one}
use Rattle.colouring.proofs.an_order_is_one.Goals as goal

pub returns : goal.returns
returns c = order_is_one
