use Rattle.std.proofs.Common.{None}
use Rattle.mach_ir.specs.declared.reg.Reg.{Reg}
use Rattle.interfere.specs.Pairs.{MeetsSet}
use Rattle.interfere.proofs.Pairs.{one_more, one_all, members_small, with_lent}
use Rattle.interfere.proofs.joining.join_params.Goals as goal

pub join_others-requires-clause-others : goal.join_others-requires-clause-others
join_others-requires-clause-others c =
    members_small _ _ c.args.set.now c.in_ok-others.others.items c.as_slice.result.now c.in_ok-others.ensures c.as_slice.ensures.value
    c.requires.set c.loop-reg.invariant.len

pub loop-reg-preserved : goal.loop-reg-preserved
loop-reg-preserved c =
    one_more (λ (r : Reg). MeetsSet None c.args.set.now r.number) c.args.params.now c.loop-reg.reg-index _ c.args.joined.now
    c.loop-reg.joined c.join_others.new.joined c.loop-reg-test.true c.loop-reg.invariant
    (with_lent c.loop-reg.joined c.join_others.new.joined None c.args.set.now c.in_ok-others.others.items c.as_slice.result.now _
    c.in_ok-others.ensures c.as_slice.ensures.value c.join_others.ensures)

pub returns : goal.returns
returns c =
    one_all (λ (r : Reg). MeetsSet None c.args.set.now r.number) c.args.params.now c.loop-reg.reg-index c.args.joined.now c.loop-reg.joined
    c.loop-reg-test.false c.loop-reg.invariant
