use Rattle.std.proofs.Common.{arith}
use Rattle.std.proofs.lemmas.Result.{err_from_is_err_and}
use Rattle.std.proofs.lemmas.Grind.{common_steps}
use Rattle.image_form.specs.declared.fault.Stop.TheVariants.{Left}
use Rattle.image_form.specs.Fields.{type_at, comp_of_byte}
use Rattle.image_form.proofs.Loops.{goes_on, stops_at, is_done}
use Rattle.image_form.proofs.fields.comps_from.Goals as goal

pub returns-in_err-comp-clause-gives : goal.returns-in_err-comp-clause-gives
returns-in_err-comp-clause-gives c =
    let p = err_from_is_err_and c.from_residual.result c.from_residual.ensures.1 in
    rw (p.1, p.2) (stops_at (Left c.in_err-comp.field-0.0.left) (λ _. type_at (comp_of_byte c.args.most)) c.loop.comps.items c.args.count c.loop.counter c.loop.rest.now _ c.loop-test.true c.in_err-comp.ensures c.loop.invariant.so_far)

pub loop-preserved : goal.loop-preserved
loop-preserved c = record {
  so_far = rw c.in_ok-push.ensures.items (goes_on (λ _. type_at (comp_of_byte c.args.most)) c.loop.comps.items c.args.count c.loop.counter c.loop.rest.now c.in_ok-comp.comp c.in_ok-comp.after.now _ c.loop-test.true c.in_ok-comp.ensures c.loop.invariant.so_far);
  few = grind (arith, common_steps, c.in_ok-push.ensures.items, c.loop.invariant.few);
}

pub returns-clause-gives : goal.returns-clause-gives
returns-clause-gives c = is_done (λ _. type_at (comp_of_byte c.args.most)) c.loop.comps.items c.args.count c.loop.counter c.loop.rest.now _ c.loop-test.false c.loop.invariant.so_far
