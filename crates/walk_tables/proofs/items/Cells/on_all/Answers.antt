use Rattle.std.proofs.Common.{arith}
use Rattle.walk_tables.proofs.Pushed.{then, ready, kept-scope, adds-as}
use Rattle.walk_tables.proofs.Operations.{on-all-is}
use Rattle.walk_tables.proofs.items.Cells.on_all.Goals as goal

pub returns : goal.returns
returns c = λ s r scope typed.
    let t = c.in_ok-taken.ensures.adds r in
    adds-as (on-all-is s c.args.slot c.args.at c.args.exprs.now) (then (c.in_ok-cell.ensures s (ready t) (kept-scope t.extends scope) typed (omega (arith, c.requires, c.in_ok-taken.ensures.more))) t)
