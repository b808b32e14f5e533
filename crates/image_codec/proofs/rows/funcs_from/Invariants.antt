use Rattle.std.proofs.Common.{◌≡◌, ◌-◌, [], map}
use Rattle.image_form.specs.Tables.{func, func_names}
use Rattle.image_form.specs.Seen.{HoldsTexts}
use Rattle.image_form.specs.Fields.{rows_at, func_at}
use Rattle.image_codec.proofs.rows.funcs_from.Given as goal

abbrev pub invariant-loop : goal.invariant-loop
invariant-loop l = record {
  so_far : rows_at func_at (map func l.rows.items) (l.count - l.counter) l.rest ≡ rows_at func_at [] l.count l.bytes;
  names : HoldsTexts l.seen (func_names (map func l.rows.items));
}
