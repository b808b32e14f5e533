use Rattle.std.proofs.Common.{nat_lt}
use Rattle.image_form.proofs.Loops.{none_at_last', some_at_last'}
use Rattle.image_codec.proofs.rows.rises.Goals as goal

pub returns-in-None : goal.returns-in-None
returns-in-None c = none_at_last' (λ p. nat_lt p c.args.number) c.args.before.now c.in-None.ensures.value

pub returns-in-Some : goal.returns-in-Some
returns-in-Some c = some_at_last' (λ p. nat_lt p c.args.number) c.args.before.now c.in-Some.last.now c.in-Some.ensures.value
