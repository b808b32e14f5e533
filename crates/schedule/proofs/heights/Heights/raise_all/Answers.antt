use Rattle.schedule.proofs.Highest.{raise_more}
use Rattle.schedule.proofs.heights.Heights.raise_all.Goals as goal

pub loop-spot-preserved : goal.loop-spot-preserved
loop-spot-preserved c =
    raise_more c.args.spots.now c.loop-spot.spot-index c.args.height _ c.args.self.now c.loop-spot.self c.raise.new.self c.loop-spot-test.true
    c.in_ok-raise.ensures c.loop-spot.invariant
