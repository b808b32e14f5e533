use Rattle.text_sizes.proofs.Whole.{text_held}
use Rattle.text_sizes.proofs.texts_hold_little.Goals as goal

pub returns : goal.returns
returns c = text_held
