use Rattle.walk_tables.specs.Cells.{cells}
use Rattle.walk_tables.proofs.Pushed.{adds-does}
use Rattle.walk_tables.proofs.items.Cells.does.Goals as goal

pub returns-clause-adds : goal.returns-clause-adds
returns-clause-adds c = λ r. adds-does (cells c.args.self.now) (cells c.push.new.self) c.in_ok-cell.cell c.args.rest c.args.action c.in_ok-cell.ensures r
