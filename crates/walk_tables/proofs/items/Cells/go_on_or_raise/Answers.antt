use Rattle.walk_tables.specs.Cells.{cells, tasks_at}
use Rattle.walk_tables.proofs.Nodes.{goes-may_raise}
use Rattle.walk_tables.proofs.Pushed.{kept-within, tasks-extend}
use Rattle.walk_tables.proofs.items.Cells.go_on_or_raise.Goals as goal

pub returns : goal.returns
returns c = λ r.
    let f = c.in_ok-raises.ensures.adds r in
    record {
      extends = f.extends;
      sound = f.sound;
      goes = goes-may_raise (cells c.raises.new.self) (tasks_at (cells c.args.self.now) c.args.rest) c.forked.result c.args.rest c.in_ok-raises.raises c.forked.ensures (kept-within f.extends r.within) f.within (tasks-extend (cells c.args.self.now) (cells c.raises.new.self) c.args.rest f.extends r.within) f.is;
    }
