use Rattle.std.proofs.Common.{◌≡◌, ◌-◌, []}
use Rattle.std.specs.Int.{w32}
use Rattle.image_form.specs.Fields.{rows_at, number_at}
use Rattle.image_codec.proofs.rows.numbers_from.Given as goal

abbrev pub invariant-loop : goal.invariant-loop
invariant-loop l = rows_at (λ _. number_at w32) l.numbers.items (l.count - l.counter) l.rest ≡ rows_at (λ _. number_at w32) [] l.count l.bytes
