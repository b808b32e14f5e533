use Rattle.text_sizes.proofs.Nesting.{text_nests}
use Rattle.text_sizes.proofs.tries_nest_little.Goals as goal

pub returns : goal.returns
returns c = text_nests
