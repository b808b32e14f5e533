use Rattle.std.proofs.Common.{map}
use Rattle.std.proofs.lemmas.Result.{err_from_is_err_and}
use Rattle.std.proofs.lemmas.List.{map_push}
use Rattle.image_form.specs.Tables.{func}
use Rattle.image_form.specs.Fields.{func_at}
use Rattle.image_form.proofs.Loops.{goes_on, stops_at, is_done}
use Rattle.image_codec.proofs.rows.funcs_from.Goals as goal

pub returns-in_err-row-clause-gives : goal.returns-in_err-row-clause-gives
returns-in_err-row-clause-gives c =
    let p = err_from_is_err_and c.from_residual.result c.from_residual.ensures.1 in
    rw (p.1, p.2) (stops_at c.in_err-row.field-0.0 func_at (map func c.loop.rows.items) c.args.count c.loop.counter c.loop.rest.now _ c.loop-test.true (rw c.deref.ensures.value at c.in_err-row.ensures.gives) c.loop.invariant.so_far)

pub loop-preserved : goal.loop-preserved
loop-preserved c = record {
  so_far = rw (c.in_ok-push.ensures.items, map_push) (goes_on func_at (map func c.loop.rows.items) c.args.count c.loop.counter c.loop.rest.now (func c.in_ok-row.row) c.in_ok-row.after.now _ c.loop-test.true (rw c.deref.ensures.value at c.in_ok-row.ensures.gives) c.loop.invariant.so_far);
  names = rw (c.in_ok-push.ensures.items, map_push, map_push) (rw c.deref.ensures.value at c.in_ok-row.ensures.seen);
}

pub returns-clause-gives : goal.returns-clause-gives
returns-clause-gives c = is_done func_at (map func c.loop.rows.items) c.args.count c.loop.counter c.loop.rest.now _ c.loop-test.false c.loop.invariant.so_far
