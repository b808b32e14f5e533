use Rattle.walk_tables.specs.Cells.{cells}
use Rattle.walk_tables.proofs.Pushed.{then, ready, kept-scope}
use Rattle.walk_tables.proofs.Catches.{adds-one_of}
use Rattle.walk_tables.proofs.items.Cells.switch.Goals as goal

pub returns : goal.returns
returns c = λ s r scope typed cases.
    let e = adds-one_of (cells c.args.self.now) (cells c.push.new.self) c.in_ok-one_of.one_of c.args.scope c.args.slot c.args.rest _ s c.in_ok-one_of.ensures r scope cases c.requires in
    then (c.in_ok-cell.ensures s (ready e) (kept-scope e.extends scope) typed) e
