use Rattle.walk_tables.proofs.Pushed.{then, ready, kept-scope}
use Rattle.walk_tables.proofs.items.Cells.checkbound.Goals as goal

pub returns : goal.returns
returns c = λ s r scope bound index.
    let m = c.in_ok-may_raise.ensures.adds r in
    then (c.in_ok-cell.ensures s (ready m) (kept-scope m.extends scope) bound index) m
