use Rattle.image_form.specs.Seen.{has_text, HoldsTexts}
use Rattle.std.proofs.Common.{arith}
use Rattle.std.proofs.lemmas.Grind.{common_steps}
use Rattle.image_form.proofs.seen.Seen.new.Goals as goal

pub returns : goal.returns
unfolding HoldsTexts has_text
returns c = λ text. grind (arith, common_steps, c.new.ensures.empty)
