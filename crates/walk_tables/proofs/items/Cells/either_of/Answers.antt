use Rattle.walk_tables.proofs.Pushed.{then, ready, kept-scope}
use Rattle.walk_tables.proofs.items.Cells.either_of.Goals as goal

pub returns : goal.returns
returns c = λ s r scope condition on_true on_false.
    let e = c.in_ok-either.ensures.adds s r scope on_true on_false in
    then (c.in_ok-cell.ensures s (ready e) (kept-scope e.extends scope) condition) e
