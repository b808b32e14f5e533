use Rattle.std.proofs.Common.{◌≡◌, ◌-◌, []}
use Rattle.image_form.specs.Fields.{rows_at, root_offset_field}
use Rattle.image_codec.proofs.rows.roots_from.Given as goal

abbrev pub invariant-loop : goal.invariant-loop
invariant-loop l = rows_at (root_offset_field l.data_len) l.rows.items (l.count - l.counter) l.rest ≡ rows_at (root_offset_field l.data_len) [] l.count l.bytes
