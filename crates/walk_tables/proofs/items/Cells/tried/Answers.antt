use Rattle.walk_tables.proofs.Pushed.{then, ready, kept-scope, kept-placed}
use Rattle.walk_tables.proofs.items.Cells.tried.Goals as goal

pub returns : goal.returns
returns c = λ s r scope body handler.
    let b = c.in_ok-after_body.ensures s r scope handler in
    then (c.in_ok-cell.ensures s (ready b) (kept-scope b.extends scope) body (kept-placed b.extends c.requires)) b
