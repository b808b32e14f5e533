use Rattle.linscan.proofs.Widening.{after_begun, after_more, after_all}
use Rattle.linscan.proofs.ranges.Ranges.see_next.Goals as goal

pub loop-after-init : goal.loop-after-init
loop-after-init c = after_begun c.args.self.now c.args.live.now.rows.items c.args.next.now c.args.place

pub loop-after-preserved : goal.loop-after-preserved
loop-after-preserved c =
    after_more c.args.live.now.rows.items c.args.next.now c.loop-after.after-index _ c.args.place c.at.result.now c.args.self.now
    c.loop-after.self c.see_members.new.self c.loop-after-test.true c.at.ensures c.loop-after.invariant c.see_members.ensures

pub returns : goal.returns
returns c =
    after_all c.args.live.now.rows.items c.args.next.now c.loop-after.after-index c.args.place c.args.self.now c.loop-after.self
    c.loop-after-test.false c.loop-after.invariant
