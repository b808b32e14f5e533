use Rattle.std.proofs.Common.{refl}
use Rattle.split.proofs.Grouping.{grouped_none, grouped_more, grouped_all}
use Rattle.split.proofs.writes.groups_of.Goals as goal

pub loop-index-init : goal.loop-index-init
loop-index-init c = grouped_none c.args.writes.now c.args.free c.in_ok-groups.groups.items c.in_ok-groups.ensures

pub loop-index-preserved : goal.loop-index-preserved
loop-index-preserved c =
    grouped_more c.args.writes.now c.args.free c.loop-index.index c.loop-index.index c.loop-index.groups.items c.add_member.new.groups.items
    _ c.loop-index-test.true refl c.in_ok-add_member.ensures c.loop-index.invariant

pub returns : goal.returns
returns c =
    grouped_all c.args.writes.now c.args.free c.loop-index.index c.loop-index.groups.items c.loop-index-test.false c.loop-index.invariant
