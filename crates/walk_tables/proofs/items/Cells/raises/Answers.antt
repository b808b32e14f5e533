use Rattle.walk_tables.specs.Cells.{cells}
use Rattle.walk_tables.proofs.Catches.{adds-raises}
use Rattle.walk_tables.proofs.items.Cells.raises.Goals as goal

pub returns-clause-adds : goal.returns-clause-adds
returns-clause-adds c = λ r. adds-raises (cells c.args.self.now) (cells c.push.new.self) c.in_ok-cell.cell c.args.rest c.in_ok-cell.ensures r
