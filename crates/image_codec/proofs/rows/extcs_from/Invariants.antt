use Rattle.std.proofs.Common.{◌≡◌, ◌-◌, [], map}
use Rattle.image_form.specs.Tables.{ext}
use Rattle.image_form.specs.Image.{ext_bytes}
use Rattle.image_form.specs.Seen.{HoldsTexts}
use Rattle.image_form.specs.Fields.{rows_at, ext_at}
use Rattle.image_codec.proofs.rows.extcs_from.Given as goal

abbrev pub invariant-loop : goal.invariant-loop
invariant-loop l = record {
  so_far : rows_at ext_at (map ext l.rows.items) (l.count - l.counter) l.rest ≡ rows_at ext_at [] l.count l.bytes;
  rows_seen : HoldsTexts l.seen (map ext_bytes (map ext l.rows.items));
}
