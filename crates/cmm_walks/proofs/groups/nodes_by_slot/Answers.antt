use Rattle.walk_tables.proofs.Arena.{plus-one}
use Rattle.std.proofs.Common.{suc, ◌+◌}
use Rattle.cmm_walks.proofs.Grouped.{one_longer, slot_here, sorting_none, sorting_more, sorted_out}
use Rattle.cmm_walks.proofs.groups.nodes_by_slot.Goals as goal

pub loop-node-init : goal.loop-node-init
loop-node-init c =
    sorting_none c.args.nodes.now (suc c.args.greatest) c.push.new.self.items
    (one_longer c.in_ok-mentions.mentions.items c.push.new.self.items _ c.args.greatest c.in_ok-mentions.ensures.len c.in_ok-push.ensures.items)

pub add_slot-requires : goal.add_slot-requires
add_slot-requires c = slot_here c.args.nodes.now (suc c.args.greatest) c.loop-node.node-index _ c.node-item.result c.requires c.loop-node-test.true c.node-item.is c.loop-node.invariant.len

pub loop-node-preserved : goal.loop-node-preserved
loop-node-preserved c =
    sorting_more c.args.nodes.now (suc c.args.greatest) c.loop-node.node-index c.loop-node.number (c.loop-node.number + 1) c.node-item.result c.loop-node.mentions.items c.add_slot.new.groups.items
    c.loop-node-test.true c.node-item.is (plus-one c.loop-node.number) c.loop-node.invariant c.in_ok-add_slot.ensures

pub returns-clause-len : goal.returns-clause-len
returns-clause-len c = c.loop-node.invariant.len

pub returns-clause-named : goal.returns-clause-named
returns-clause-named c = sorted_out c.args.nodes.now (suc c.args.greatest) c.loop-node.node-index c.loop-node.number c.loop-node.mentions.items c.loop-node-test.false c.loop-node.invariant
