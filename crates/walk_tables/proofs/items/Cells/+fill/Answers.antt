use Rattle.walk_tables.specs.Walks.{names}
use Rattle.walk_tables.proofs.Arena.{plus-one, first-rest}
use Rattle.walk_tables.proofs.Pushed.{then, ready, kept-scope, kept-placed, adds-as}
use Rattle.walk_tables.proofs.Parts.{typed-first, filled-first}
use Rattle.walk_tables.proofs.items.Cells.+fill.Goals as goal

pub returns-in_ok-cell-in-len1-up : goal.returns-in_ok-cell-in-len1-up
returns-in_ok-cell-in-len1-up t c = λ s r scope typed placed.
    let p = first-rest c.args.exprs.now c.first-item.result c.in-len1-up.len_at_least c.first-item.is in
    let parts = typed-first (names s) c.args.exprs.now c.first-item.result _ p typed in
    let h = c.in_ok-here-in-len1-up.ensures s r scope parts.0 placed in
    let w = c.in_ok-cell-in-len1-up.ensures s (ready h) (kept-scope h.extends scope) parts.1 (kept-placed h.extends placed) in
    adds-as (filled-first s c.args.free c.args.slot _ c.args.exprs.now c.first-item.result _ p (plus-one c.args.slot)) (then w h)
