use Rattle.std.proofs.lemmas.Result.{err_from_is_err_and}
use Rattle.image_form.specs.declared.fault.Stop.TheVariants.{Left}
use Rattle.image_form.specs.Fields.{root_offset_field}
use Rattle.image_form.proofs.Loops.{goes_on, stops_at, is_done}
use Rattle.image_codec.proofs.rows.roots_from.Goals as goal

pub returns-in_err-row : goal.returns-in_err-row
returns-in_err-row c =
    let p = err_from_is_err_and c.from_residual.result c.from_residual.ensures.1 in
    rw (p.1, p.2) (stops_at (Left c.in_err-row.field-0.0.left) (root_offset_field c.args.data_len) c.loop.rows.items c.args.count c.loop.counter c.loop.rest.now _ c.loop-test.true (rw c.deref.ensures.value at c.in_err-row.ensures) c.loop.invariant)

pub loop-preserved : goal.loop-preserved
loop-preserved c =
    rw (c.in_ok-push.ensures.items) (goes_on (root_offset_field c.args.data_len) c.loop.rows.items c.args.count c.loop.counter c.loop.rest.now c.in_ok-row.row c.in_ok-row.after.now _ c.loop-test.true (rw c.deref.ensures.value at c.in_ok-row.ensures) c.loop.invariant)

pub returns : goal.returns
returns c = is_done (root_offset_field c.args.data_len) c.loop.rows.items c.args.count c.loop.counter c.loop.rest.now _ c.loop-test.false c.loop.invariant
