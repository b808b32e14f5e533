use Rattle.std.proofs.Common.{suc, arith}
use Rattle.cmm_walks.proofs.Firsts.{slots_kept, slot_more, all_taken}
use Rattle.walk_tables.specs.Table.{slot_below}
use Rattle.cmm_walks.proofs.first.greatest_slot.Goals as goal

pub loop-node-preserved : goal.loop-node-preserved
loop-node-preserved c =
    slots_kept (suc c.loop-node.greatest) (suc c.max-greatest.result) c.args.nodes.now c.loop-node.node-index c.node-item.result
    (omega (arith, c.max-greatest.ensures)) c.loop-node-test.true c.node-item.is c.loop-node.invariant
    (slot_more (suc c.slot_of.result) (suc c.max-greatest.result) (omega (arith, c.max-greatest.ensures)) c.node-item.result.step c.slot_of.ensures)

pub returns : goal.returns
returns c = all_taken (λ n. slot_below (suc c.loop-node.greatest) n.step) c.args.nodes.now c.loop-node.node-index c.loop-node-test.false c.loop-node.invariant
