use Rattle.image_form.specs.Fields.{is_next_entry}
use Rattle.image_form.proofs.Loops.{none_at_last', some_at_last'}
use Rattle.image_codec.proofs.rows.continues.Goals as goal

pub returns-in-None : goal.returns-in-None
returns-in-None c = none_at_last' (λ p. is_next_entry p c.args.entry) c.args.before.now c.in-None.ensures.value

pub returns-in-Some : goal.returns-in-Some
returns-in-Some c = rw c.is_next_entry.ensures (some_at_last' (λ p. is_next_entry p c.args.entry) c.args.before.now c.in-Some.last.now c.in-Some.ensures.value)
