use Rattle.walk_tables.proofs.Arena.{plus-one}
use Rattle.std.proofs.Common.{◌+◌}
use Rattle.cmm_walks.proofs.Grouped.{next_all, turning_none, turning_more, turned}
use Rattle.cmm_walks.proofs.groups.nodes_before.Goals as goal

pub loop-node-init : goal.loop-node-init
loop-node-init c = turning_none c.args.nodes.now c.in_ok-before.before.items c.in_ok-before.ensures.len c.in_ok-before.ensures.empty

pub add_to_all-requires : goal.add_to_all-requires
add_to_all-requires c =
    next_all c.args.nodes.now c.loop-node.node-index _ c.node-item.result c.as_slice.result.now c.requires c.loop-node-test.true c.node-item.is c.as_slice.ensures c.loop-node.invariant.len

pub loop-node-preserved : goal.loop-node-preserved
loop-node-preserved c =
    turning_more c.args.nodes.now c.loop-node.node-index c.loop-node.number (c.loop-node.number + 1) c.node-item.result c.loop-node.before.items c.add_to_all.new.groups.items c.as_slice.result.now
    c.loop-node-test.true c.node-item.is (plus-one c.loop-node.number) c.as_slice.ensures c.loop-node.invariant c.in_ok-add_to_all.ensures.len c.in_ok-add_to_all.ensures.exact

pub returns : goal.returns
returns c = turned c.args.nodes.now c.loop-node.node-index c.loop-node.number c.loop-node.before.items c.loop-node-test.false c.loop-node.invariant
