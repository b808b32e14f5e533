use Rattle.cmm_tree.specs.View.{expr_view}
use Rattle.cmm_tree.specs.Rows.{bindings_of}
use Rattle.walk_tables.specs.Cells.{cells, tasks_at}
use Rattle.walk_tables.proofs.Nodes.{goes-enters}
use Rattle.walk_tables.proofs.items.Cells.enter.Goals as goal

pub returns : goal.returns
returns c = λ s r scope typed body.
    let f = c.in_ok-cell.ensures s r scope typed body in
    record {
      extends = f.extends;
      sound = f.sound;
      goes = goes-enters (cells c.entering.new.self) s c.args.slot (bindings_of c.args.bindings.now) (expr_view c.args.body.now) (tasks_at (cells c.args.self.now) c.args.rest) c.quiet.result c.in_ok-cell.cell c.quiet.ensures f.within f.is;
    }
