use Rattle.std.proofs.Common.{◌≡◌, ◌-◌, ◌≤◌, length, []}
use Rattle.image_form.specs.Fields.{rows_at, type_at, comp_of_byte}
use Rattle.image_form.proofs.fields.comps_from.Given as goal

abbrev pub invariant-loop : goal.invariant-loop
invariant-loop l = record {
  so_far : rows_at (λ _. type_at (comp_of_byte l.most)) l.comps.items (l.count - l.counter) l.rest ≡ rows_at (λ _. type_at (comp_of_byte l.most)) [] l.count l.bytes;
  few : length l.comps.items ≤ l.counter;
}
