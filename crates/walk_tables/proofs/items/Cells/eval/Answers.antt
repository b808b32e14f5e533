use Rattle.walk_tables.specs.Cells.{cells}
use Rattle.walk_tables.proofs.Pushed.{adds-evaluates}
use Rattle.walk_tables.proofs.items.Cells.eval.Goals as goal

pub returns : goal.returns
returns c = λ s r scope typed placed. adds-evaluates (cells c.args.self.now) (cells c.push.new.self) c.in_ok-cell.cell c.args.scope c.args.slot c.args.rest _ s c.in_ok-cell.ensures r scope typed placed
