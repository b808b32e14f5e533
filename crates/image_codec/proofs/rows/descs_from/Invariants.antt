use Rattle.std.proofs.Common.{◌≡◌, ◌-◌, [], map}
use Rattle.image_form.specs.Tables.{desc}
use Rattle.image_form.specs.Fields.{rows_at, desc_at}
use Rattle.image_codec.proofs.rows.descs_from.Given as goal

abbrev pub invariant-loop : goal.invariant-loop
invariant-loop l = rows_at (desc_at l.version l.code_len) (map desc l.rows.items) (l.count - l.counter) l.rest ≡ rows_at (desc_at l.version l.code_len) [] l.count l.bytes
