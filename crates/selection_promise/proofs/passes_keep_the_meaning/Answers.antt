use Rattle.selection_promise.proofs.Played.{plays_on}
use Rattle.selection_promise.proofs.passes_keep_the_meaning.Goals as goal

-- src/lib.rt:24:1
pub returns : goal.returns
returns c = plays_on
