use Rattle.std.proofs.Common.{arith, ap, length, refl}
use Rattle.std.proofs.lemmas.Bool.{iff_false}
use Rattle.dataflow.specs.Flow.{IsPlace}
use Rattle.dataflow.proofs.Forms.{one_unfit, one_more, all_fit}
use Rattle.dataflow.proofs.flow.Flow.is_well_formed.Goals as goal

pub returns-then-not-fits : goal.returns-then-not-fits
returns-then-not-fits c =
    (λ e. cc, λ formed. absurd (one_unfit c.args.self.now _ _ c.loop-place.place-index _ c.as_slice-place-items.ensures c.len-count.ensures c.loop-place-test.true c.place-item.is (iff_false c.is_place-fits.ensures c.if-not-fits.true) formed))

pub loop-place-preserved : goal.loop-place-preserved
loop-place-preserved c =
    one_more (IsPlace c.len-count.result c.args.self.now.bound) _ _ c.loop-place.place-index _ c.as_slice-place-items.ensures c.loop-place-test.true c.place-item.is c.loop-place.invariant (c.is_place-fits.ensures.0 c.if-not-fits.false)

pub returns : goal.returns
returns c =
    (λ e. all_fit c.args.self.now _ c.loop-place.place-index c.len-count.ensures (omega (arith, ap length c.as_slice-place-items.ensures, c.loop-place-test.false)) c.loop-place.invariant, λ formed. refl)
