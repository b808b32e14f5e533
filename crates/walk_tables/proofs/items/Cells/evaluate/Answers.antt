use Rattle.cmm_tree.specs.View.{expr_view}
use Rattle.walk_tables.specs.Cells.{cells, tasks_at}
use Rattle.walk_tables.proofs.Nodes.{goes-evaluates}
use Rattle.walk_tables.proofs.items.Cells.evaluate.Goals as goal

pub returns : goal.returns
returns c = λ s r scope typed.
    let f = c.in_ok-cell.ensures s r scope typed in
    record {
      extends = f.extends;
      sound = f.sound;
      goes = goes-evaluates (cells c.form.new.self) s c.args.slot (expr_view c.args.expr.now) (tasks_at (cells c.args.self.now) c.args.rest) c.quiet.result c.in_ok-cell.cell c.quiet.ensures f.within f.is;
    }
