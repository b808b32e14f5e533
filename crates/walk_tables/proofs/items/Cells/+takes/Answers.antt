use Rattle.walk_tables.proofs.Arena.{plus-one}
use Rattle.walk_tables.proofs.Pushed.{then, ready, adds-as}
use Rattle.walk_tables.proofs.Parts.{takes-next}
use Rattle.walk_tables.proofs.items.Cells.+takes.Goals as goal

pub returns-clause-adds : goal.returns-clause-adds
returns-clause-adds t c = λ r.
    let o = c.in_ok-others.ensures.adds r in
    adds-as (takes-next c.args.at c.args.slot _ c.args.count c.if-count-eq0.false (plus-one c.args.slot)) (then (c.in_ok-cell.ensures.adds (ready o)) o)
