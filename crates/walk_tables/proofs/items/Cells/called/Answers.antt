use Rattle.walk_tables.specs.Cells.{cells}
use Rattle.walk_tables.proofs.Pushed.{then, ready}
use Rattle.walk_tables.proofs.Catches.{called-plain, called-frame}
use Rattle.walk_tables.proofs.items.Cells.called.Goals as goal

pub returns-in_ok-cell-clause-adds : goal.returns-in_ok-cell-clause-adds
returns-in_ok-cell-clause-adds c = λ r.
    let m = c.in_ok-may_raise.ensures.adds r in
    called-frame c.args.at c.args.frame c.if-frame.true (then (c.in_ok-cell.ensures.adds (ready m)) m)

pub returns-else-frame-clause-adds : goal.returns-else-frame-clause-adds
returns-else-frame-clause-adds c = λ r. called-plain (cells c.args.self.now) c.args.rest c.args.at c.args.frame c.if-frame.false r
