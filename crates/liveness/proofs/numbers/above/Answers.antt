use Rattle.std.proofs.Common.{refl, subst}
use Rattle.std.proofs.lemmas.List.{take_all}
use Rattle.liveness.specs.Numbers.{IsLeastAbove}
use Rattle.liveness.proofs.Bounds.{above_begun, above_step}
use Rattle.liveness.proofs.numbers.above.Goals as goal

pub loop-reg-init : goal.loop-reg-init
loop-reg-init c = above_begun c.args.bound c.args.regs.now

pub loop-reg-preserved : goal.loop-reg-preserved
loop-reg-preserved c =
    above_step c.args.bound c.loop-reg.above c.max-above.result _ c.loop-reg.reg-index c.args.regs.now _
    c.loop-reg-test.true c.loop-reg.invariant refl c.max-above.ensures

pub returns : goal.returns
returns c =
    subst (λ rs. IsLeastAbove c.args.bound rs c.loop-reg.above) (take_all c.loop-reg.reg-index c.args.regs.now c.loop-reg-test.false)
    c.loop-reg.invariant
