use Rattle.walk_tables.specs.Walks.{names}
use Rattle.walk_tables.proofs.Arena.{first-rest}
use Rattle.walk_tables.proofs.Pushed.{then, ready, kept-scope, kept-placed, adds-as}
use Rattle.walk_tables.proofs.Parts.{typed-first, in-order-first}
use Rattle.walk_tables.proofs.items.Cells.+in_order.Goals as goal

pub returns-in_ok-cell-in-len1-up : goal.returns-in_ok-cell-in-len1-up
returns-in_ok-cell-in-len1-up t c = λ s r scope typed.
    let p = first-rest c.args.exprs.now c.first-item.result c.in-len1-up.len_at_least c.first-item.is in
    let parts = typed-first (names s) c.args.exprs.now c.first-item.result _ p typed in
    let l = c.in_ok-later-in-len1-up.ensures s r scope parts.1 in
    let e = c.in_ok-cell-in-len1-up.ensures s (ready l) (kept-scope l.extends scope) parts.0 (kept-placed l.extends c.requires) in
    adds-as (in-order-first s c.args.slot c.args.exprs.now c.first-item.result _ p) (then e l)
