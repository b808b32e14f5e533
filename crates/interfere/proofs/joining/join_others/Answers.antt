use Rattle.interfere.specs.Pairs.{Meeting}
use Rattle.interfere.proofs.Pairs.{one_more}
use Rattle.interfere.proofs.joining.join_others.Goals as goal

pub loop-other-preserved : goal.loop-other-preserved
loop-other-preserved c =
    one_more (Meeting c.args.moved c.args.number) c.args.others.now c.loop-other.other-index _ c.args.joined.now c.loop-other.joined
    c.join_one.new.joined c.loop-other-test.true c.loop-other.invariant c.join_one.ensures
