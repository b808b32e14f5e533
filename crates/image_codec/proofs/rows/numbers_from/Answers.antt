use Rattle.std.proofs.lemmas.Result.{err_from_is_err_and}
use Rattle.std.specs.Int.{w32}
use Rattle.image_form.specs.declared.fault.Stop.TheVariants.{Left}
use Rattle.image_form.specs.Fields.{number_at}
use Rattle.image_form.proofs.Loops.{goes_on, stops_at, is_done}
use Rattle.image_codec.proofs.rows.numbers_from.Goals as goal

pub returns-in_err-number : goal.returns-in_err-number
returns-in_err-number c =
    let p = err_from_is_err_and c.from_residual.result c.from_residual.ensures.1 in
    rw (p.1, p.2) (stops_at (Left c.in_err-number.field-0.0.left) (λ _. number_at w32) c.loop.numbers.items c.args.count c.loop.counter c.loop.rest.now _ c.loop-test.true c.in_err-number.ensures c.loop.invariant)

pub loop-preserved : goal.loop-preserved
loop-preserved c =
    rw c.in_ok-push.ensures.items (goes_on (λ _. number_at w32) c.loop.numbers.items c.args.count c.loop.counter c.loop.rest.now c.in_ok-number.number c.in_ok-number.after.now _ c.loop-test.true c.in_ok-number.ensures c.loop.invariant)

pub returns : goal.returns
returns c = is_done (λ _. number_at w32) c.loop.numbers.items c.args.count c.loop.counter c.loop.rest.now _ c.loop-test.false c.loop.invariant
