use Rattle.linscan.proofs.Widening.{node_seen}
use Rattle.linscan.proofs.ranges.Ranges.see_node.Goals as goal

pub returns : goal.returns
returns c =
    node_seen c.args.node.now c.args.live.now.rows.items c.args.place c.as_slice.result.now c.as_slice-2.result.now
    c.as_slice-3.result.now c.at.result.now c.args.self.now c.see_all.new.self c.see_all-2.new.self c.see_members.new.self
    c.see_next.new.self c.as_slice.ensures c.as_slice-2.ensures c.at.ensures c.as_slice-3.ensures c.see_all.ensures
    c.see_all-2.ensures c.see_members.ensures c.see_next.ensures
