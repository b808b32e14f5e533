use Rattle.interfere.specs.Pairs.{MeetsSet}
use Rattle.interfere.proofs.Pairs.{one_more, members_small, with_lent}
use Rattle.interfere.proofs.joining.join_set.Goals as goal

pub join_others-requires-clause-others : goal.join_others-requires-clause-others
join_others-requires-clause-others c =
    members_small _ _ c.args.set.now c.in_ok-others.others.items c.as_slice.result.now c.in_ok-others.ensures c.as_slice.ensures.value
    c.requires.set c.loop-number.invariant.len

pub loop-number-preserved : goal.loop-number-preserved
loop-number-preserved c =
    one_more (MeetsSet c.args.moved c.args.set.now) c.args.numbers.now c.loop-number.number-index _ c.args.joined.now c.loop-number.joined
    c.join_others.new.joined c.loop-number-test.true c.loop-number.invariant
    (with_lent c.loop-number.joined c.join_others.new.joined c.args.moved c.args.set.now c.in_ok-others.others.items c.as_slice.result.now _
    c.in_ok-others.ensures c.as_slice.ensures.value c.join_others.ensures)
