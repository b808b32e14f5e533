use Rattle.std.proofs.Common.{None}
use Rattle.colouring.proofs.Counting.{all_alike}
use Rattle.linscan.proofs.active.Active.new.Goals as goal

pub returns : goal.returns
returns c = λ k. all_alike None 32 k
