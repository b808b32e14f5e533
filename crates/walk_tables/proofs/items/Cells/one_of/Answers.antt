use Rattle.cmm_tree.specs.Rows.{cases_of}
use Rattle.walk_tables.specs.Cells.{cells, tasks_at}
use Rattle.walk_tables.specs.Walks.{bodies}
use Rattle.walk_tables.proofs.Nodes.{goes-one_of, bodies-of-none}
use Rattle.walk_tables.proofs.items.Cells.one_of.Goals as goal

pub returns : goal.returns
returns c = λ s r scope typed.
    let m = c.in_ok-bodies.ensures s r scope typed c.requires in
    record {
      extends = m.extends;
      sound = m.sound;
      goes = goes-one_of (cells c.bodies.new.self) s c.args.slot (tasks_at (cells c.args.self.now) c.args.rest) c.any_of.result _ (bodies (cases_of c.args.cases.now)) c.any_of.ensures (bodies-of-none (cells c.args.self.now) (cells c.bodies.new.self) s c.args.slot (tasks_at (cells c.args.self.now) c.args.rest) _ _ (bodies (cases_of c.args.cases.now)) c.new-next.ensures.items m);
    }
