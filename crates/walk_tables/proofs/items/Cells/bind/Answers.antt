use Rattle.std.proofs.Common.{refl, arith}
use Rattle.walk_tables.specs.Cells.{cells}
use Rattle.walk_tables.proofs.Pushed.{opens-named}
use Rattle.walk_tables.proofs.items.Cells.bind.Goals as goal

pub returns-clause-opens : goal.returns-clause-opens
returns-clause-opens c = λ s sound scope.
    opens-named (cells c.args.self.now) (cells c.push.new.self) _ c.in_ok-cell.cell c.args.outer _ s c.in_ok-cell.ensures sound scope scope.within tt (omega arith) refl
