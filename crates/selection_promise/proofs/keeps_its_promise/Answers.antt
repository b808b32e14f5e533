use Rattle.selection_promise.proofs.Promised.{promised}
use Rattle.selection_promise.proofs.keeps_its_promise.Goals as goal

-- src/lib.rt:15:1
pub returns : goal.returns
returns c = promised
