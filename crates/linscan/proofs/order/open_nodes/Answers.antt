use Rattle.std.proofs.Common.{◌≤◌, length, ap, arith, rules}
use Rattle.linscan.proofs.Starting.{opens_none, opens_step, opens_all}
use Rattle.linscan.proofs.order.open_nodes.Goals as goal

pub loop-node-init : goal.loop-node-init
loop-node-init c = opens_none c.args.ranges.now c.args.graph.now.nodes c.new-opens.result.items (search rules)

pub loop-node-preserved : goal.loop-node-preserved
loop-node-preserved c =
    opens_step c.args.ranges.now c.args.graph.now.nodes c.as_slice-node-items.result.now c.loop-node.node-index c.node-item.result
    c.loop-node.opens.items c.push_open.new.opens.items c.requires c.as_slice-node-items.ensures c.loop-node-test.true c.node-item.is
    c.in_ok-push_open.ensures c.loop-node.invariant

pub returns : goal.returns
returns c =
    let same = ap length c.as_slice-node-items.ensures in
    let le : length c.args.graph.now.nodes ≤ c.loop-node.node-index = omega (arith, same) in
    opens_all c.args.ranges.now c.args.graph.now.nodes c.loop-node.node-index c.loop-node.opens.items le c.loop-node.invariant
