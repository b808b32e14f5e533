use Rattle.linking_stages.proofs.Selected.{words_passed}
use Rattle.linking_stages.proofs.words_are_passed_on.Goals as goal

pub returns : goal.returns
returns c = words_passed
