use Rattle.linscan.proofs.Widening.{sights_begun, sights_more, sights_all}
use Rattle.linscan.proofs.ranges.Ranges.see_all.Goals as goal

pub loop-number-init : goal.loop-number-init
loop-number-init c = sights_begun c.args.self.now c.args.numbers.now c.args.place

pub loop-number-preserved : goal.loop-number-preserved
loop-number-preserved c =
    sights_more c.args.numbers.now c.loop-number.number-index _ c.args.place c.args.self.now c.loop-number.self c.see.new.self
    c.loop-number-test.true c.loop-number.invariant c.see.ensures

pub returns : goal.returns
returns c =
    sights_all c.args.numbers.now c.loop-number.number-index c.args.place c.args.self.now c.loop-number.self c.loop-number-test.false
    c.loop-number.invariant
