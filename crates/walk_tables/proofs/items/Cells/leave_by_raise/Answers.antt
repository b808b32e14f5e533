use Rattle.std.proofs.Common.{length}
use Rattle.walk_tables.specs.Cells.{cells, tasks_at}
use Rattle.walk_tables.proofs.Leavings.{leads-found}
use Rattle.walk_tables.proofs.Nodes.{goes-raises, goes-raises-none}
use Rattle.walk_tables.proofs.Pushed.{extends-none}
use Rattle.walk_tables.proofs.items.Cells.leave_by_raise.Goals as goal

pub returns-in-None : goal.returns-in-None
returns-in-None c = λ sound.
    let v = cells c.args.self.now in
    record {
      extends = extends-none v;
      sound = sound;
      goes = goes-raises-none v (tasks_at v c.args.rest) c.last.result c.last.ensures (leads-found (length v) (tasks_at v) c.raise.result _ _ c.in-None.is (c.raise.ensures sound));
    }

pub returns-in-Some : goal.returns-in-Some
returns-in-Some c = λ sound.
    let v = cells c.args.self.now in
    let l = leads-found (length v) (tasks_at v) c.raise.result _ _ c.in-Some.is (c.raise.ensures sound) in
    record {
      extends = extends-none v;
      sound = sound;
      goes = goes-raises v (tasks_at v c.args.rest) c.quiet.result c.in-Some.cell c.quiet.ensures l.0 l.1;
    }
