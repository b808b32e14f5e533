use Rattle.walk_tables.proofs.Pushed.{then, ready, kept-scope, kept-placed}
use Rattle.walk_tables.proofs.items.Cells.assign.Goals as goal

pub returns : goal.returns
returns c = λ s r scope typed.
    let b = c.in_ok-bound.ensures s r scope in
    then (c.in_ok-cell.ensures s (ready b) (kept-scope b.extends scope) typed (kept-placed b.extends c.requires)) b
