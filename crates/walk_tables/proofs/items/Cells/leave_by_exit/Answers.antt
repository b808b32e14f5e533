use Rattle.std.proofs.Common.{length}
use Rattle.cmm_tree.specs.View.{label_view}
use Rattle.walk_tables.specs.Cells.{cells, tasks_at}
use Rattle.walk_tables.proofs.Leavings.{leads-found}
use Rattle.walk_tables.proofs.Nodes.{goes-exits, goes-exits-none}
use Rattle.walk_tables.proofs.Pushed.{extends-none}
use Rattle.walk_tables.proofs.items.Cells.leave_by_exit.Goals as goal

pub returns-in-None : goal.returns-in-None
returns-in-None c =
    let v = cells c.args.self.now in
    record {
      extends = extends-none v;
      sound = c.requires;
      goes = goes-exits-none v (label_view c.args.label.now) (tasks_at v c.args.rest) c.last.result c.last.ensures (leads-found (length v) (tasks_at v) c.exit.result _ _ c.in-None.is c.exit.ensures);
    }

pub returns-in-Some : goal.returns-in-Some
returns-in-Some c =
    let v = cells c.args.self.now in
    let l = leads-found (length v) (tasks_at v) c.exit.result _ _ c.in-Some.is c.exit.ensures in
    record {
      extends = extends-none v;
      sound = c.requires;
      goes = goes-exits v (label_view c.args.label.now) (tasks_at v c.args.rest) c.quiet.result c.in-Some.cell c.quiet.ensures l.0 l.1;
    }
