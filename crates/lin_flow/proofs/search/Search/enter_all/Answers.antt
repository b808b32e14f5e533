use Rattle.std.proofs.Common.{refl}
use Rattle.lin_flow.proofs.Searching.{entering_more, entering_all}
use Rattle.lin_flow.proofs.search.Search.enter_all.Goals as goal

pub loop-place-preserved : goal.loop-place-preserved
loop-place-preserved c =
    entering_more c.args.self.now c.loop-place.self c.enter.new.self c.args.places.now c.args.tries.now c.loop-place.place-index _
    c.in_ok-number.number c.loop-place.numbers.items c.push.new.self.items c.loop-place-test.true refl c.loop-place.invariant
    c.in_ok-number.ensures c.in_ok-push.ensures.items

pub returns-clause-grown : goal.returns-clause-grown
returns-clause-grown c =
    (entering_all c.args.self.now c.loop-place.self c.args.places.now c.args.tries.now c.loop-place.place-index c.loop-place.numbers.items
    c.loop-place-test.false c.loop-place.invariant).0

pub returns-clause-numbers : goal.returns-clause-numbers
returns-clause-numbers c =
    (entering_all c.args.self.now c.loop-place.self c.args.places.now c.args.tries.now c.loop-place.place-index c.loop-place.numbers.items
    c.loop-place-test.false c.loop-place.invariant).1
