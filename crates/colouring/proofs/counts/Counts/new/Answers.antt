use Rattle.colouring.proofs.Counting.{all_alike}
use Rattle.colouring.proofs.counts.Counts.new.Goals as goal

pub returns : goal.returns
returns c = λ r. all_alike 0 32 r
