use Rattle.schedule.proofs.Backward.{ranked_begun, ranked_more}
use Rattle.schedule.proofs.order.ranked.Goals as goal

pub loop-line-init : goal.loop-line-init
loop-line-init c =
    ranked_begun c.args.run.now.items c.none-later.result c.in_ok-lines.lines.items c.in_ok-lines.ensures.items c.none-later.ensures

pub loop-line-preserved : goal.loop-line-preserved
loop-line-preserved c =
    ranked_more c.args.run.now.items c.loop-line.run.items c.pop.new.self.items c.in-Some.line c.in_ok-height.height c.loop-line.later c.put.new.self
    c.loop-line.lines.items c.push.new.self.items c.in-Some.ensures.items c.in_ok-push.ensures.items c.in_ok-height.ensures c.in_ok-put.ensures
    c.loop-line.invariant
