use Rattle.std.proofs.Common.{◌≡◌, ◌-◌, []}
use Rattle.image_form.specs.Fields.{rows_at, entry_at}
use Rattle.image_codec.proofs.rows.entries_from.Given as goal

abbrev pub invariant-loop : goal.invariant-loop
invariant-loop l = rows_at (entry_at l.version l.size) l.entries.items (l.count - l.counter) l.rest ≡ rows_at (entry_at l.version l.size) [] l.count l.bytes
