use Rattle.walk_tables.specs.Cells.{cells}
use Rattle.walk_tables.proofs.Catches.{adds-either}
use Rattle.walk_tables.proofs.items.Cells.branches.Goals as goal

pub returns-clause-adds : goal.returns-clause-adds
returns-clause-adds c = λ s r scope on_true on_false.
    adds-either (cells c.args.self.now) (cells c.push.new.self) c.in_ok-cell.cell c.args.scope c.args.slot c.args.rest _ _ s c.in_ok-cell.ensures r scope on_true on_false c.requires
