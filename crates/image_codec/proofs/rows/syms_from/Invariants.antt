use Rattle.std.proofs.Common.{◌≡◌, ◌-◌, ◌++◌, ℕ, List, [], map}
use Rattle.image_form.specs.Tables.{sym, sym_names}
use Rattle.image_form.specs.Seen.{HoldsTexts}
use Rattle.image_form.specs.Fields.{rows_at, sym_at}
use Rattle.image_codec.proofs.rows.syms_from.Given as goal

abbrev pub invariant-loop : goal.invariant-loop
invariant-loop l = (names : List (List ℕ)) → HoldsTexts l.fn.seen names
    → (rows_at (sym_at names l.data_len) (map sym l.rows.items) (l.count - l.counter) l.rest ≡ rows_at (sym_at names l.data_len) [] l.count l.bytes)
    × HoldsTexts l.seen (names ++ sym_names (map sym l.rows.items))
