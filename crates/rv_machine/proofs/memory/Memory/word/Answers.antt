use Rattle.std.proofs.Common.{ℕ, Option, Some, None, ◌≡◌, refl, ◌∙◌, ap}
use Rattle.std.specs.Prelude.{unwrap_or}
use Rattle.rv_machine.specs.Memory.{or_zero, memory_word}
use Rattle.rv_machine.proofs.memory.Memory.word.Goals as goal

or_zero_is : (o : Option ℕ) → unwrap_or o 0 ≡ or_zero o
or_zero_is None = refl
or_zero_is (Some w) = refl

pub returns : goal.returns
unfolding memory_word
returns c = c.unwrap_or.ensures ∙ or_zero_is c.load.result ∙ ap or_zero c.load.ensures.exact
