use Rattle.walk_tables.proofs.Arena.{plus-one}
use Rattle.walk_tables.proofs.Pushed.{then, ready, adds-as}
use Rattle.walk_tables.proofs.Operations.{calls-is}
use Rattle.walk_tables.proofs.items.Cells.calls.Goals as goal

pub returns-clause-adds : goal.returns-clause-adds
returns-clause-adds c = λ r.
    let p = c.in_ok-called.ensures.adds r in
    let o = c.in_ok-others.ensures.adds (ready p) in
    let u = c.in_ok-cell.ensures.adds (ready o) in
    adds-as (calls-is c.args.slot _ c.args.at c.args.arguments (plus-one c.args.slot)) (then u (then o p))
