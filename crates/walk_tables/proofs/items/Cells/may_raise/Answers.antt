use Rattle.walk_tables.specs.Cells.{cells}
use Rattle.walk_tables.proofs.Catches.{adds-may_raise}
use Rattle.walk_tables.proofs.items.Cells.may_raise.Goals as goal

pub returns-clause-adds : goal.returns-clause-adds
returns-clause-adds c = λ r. adds-may_raise (cells c.args.self.now) (cells c.push.new.self) c.in_ok-cell.cell c.args.rest c.in_ok-cell.ensures r
