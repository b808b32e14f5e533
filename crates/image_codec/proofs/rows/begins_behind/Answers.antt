use Rattle.std.proofs.Common.{◌&&◌, nat_lt, nat_le}
use Rattle.image_form.specs.Tables.{func}
use Rattle.image_form.specs.Image.{function_end}
use Rattle.image_form.proofs.Loops.{none_at_last, some_at_last}
use Rattle.image_codec.proofs.rows.begins_behind.Goals as goal

pub returns-in-None : goal.returns-in-None
returns-in-None c = none_at_last (λ f. nat_lt f.offset c.args.offset && nat_le (function_end f) c.args.offset) func c.args.before.now c.in-None.ensures.value

pub returns-in-Some : goal.returns-in-Some
returns-in-Some c = rw c.is_behind.ensures (some_at_last (λ f. nat_lt f.offset c.args.offset && nat_le (function_end f) c.args.offset) func c.args.before.now c.in-Some.row.now c.in-Some.ensures.value)
