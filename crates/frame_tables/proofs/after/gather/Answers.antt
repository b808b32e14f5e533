use Rattle.std.proofs.Common.{refl}
use Rattle.frame_tables.proofs.Pointing.{gathering_none, gathering_more, gathering_done}
use Rattle.frame_tables.proofs.after.gather.Goals as goal

pub loop-number-init : goal.loop-number-init
loop-number-init c =
    gathering_none c.args.search.now c.args.nodes.now c.args.choice c.args.aside _ c.new-numbers.result.items c.new-numbers.ensures.items

pub loop-number-preserved : goal.loop-number-preserved
loop-number-preserved c =
    gathering_more c.args.search.now c.args.nodes.now c.args.choice c.args.aside _ c.loop-number.numbers.items c.gather_from.new.numbers.items
    c.loop-number.number-index _ refl c.loop-number.invariant c.in_ok-gather_from.ensures

pub returns : goal.returns
returns c =
    gathering_done c.args.search.now c.args.nodes.now c.args.choice c.args.aside _ _ c.loop-number.numbers.items _ c.loop-number.number-index
    c.members-number-items.ensures c.from_vec.ensures c.loop-number-test.false c.loop-number.invariant
