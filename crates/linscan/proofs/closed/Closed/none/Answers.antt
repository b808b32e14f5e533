use Rattle.std.proofs.Common.{false}
use Rattle.colouring.proofs.Counting.{all_alike}
use Rattle.linscan.proofs.closed.Closed.none.Goals as goal

pub returns : goal.returns
returns c = λ k. all_alike false 32 k
