use Rattle.walk_tables.proofs.Pushed.{then, ready, kept-scope}
use Rattle.walk_tables.proofs.items.Cells.raise_value.Goals as goal

pub returns : goal.returns
returns c = λ s r scope typed.
    let m = c.in_ok-raises.ensures.adds r in
    then (c.in_ok-cell.ensures s (ready m) (kept-scope m.extends scope) typed) m
