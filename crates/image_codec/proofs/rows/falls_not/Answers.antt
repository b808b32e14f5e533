use Rattle.std.proofs.Common.{nat_le}
use Rattle.image_form.specs.Tables.{sym}
use Rattle.image_form.proofs.Loops.{none_at_last, some_at_last}
use Rattle.image_codec.proofs.rows.falls_not.Goals as goal

pub returns-in-None : goal.returns-in-None
returns-in-None c = none_at_last (λ s. nat_le s.offset c.args.offset) sym c.args.before.now c.in-None.ensures.value

pub returns-in-Some : goal.returns-in-Some
returns-in-Some c = some_at_last (λ s. nat_le s.offset c.args.offset) sym c.args.before.now c.in-Some.row.now c.in-Some.ensures.value
