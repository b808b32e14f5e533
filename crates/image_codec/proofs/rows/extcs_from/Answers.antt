use Rattle.std.proofs.Common.{map}
use Rattle.std.proofs.lemmas.Result.{err_from_is_err_and}
use Rattle.std.proofs.lemmas.List.{map_push}
use Rattle.image_form.specs.Tables.{ext}
use Rattle.image_form.specs.Fields.{ext_at}
use Rattle.image_form.proofs.Loops.{goes_on, stops_at, is_done}
use Rattle.image_codec.proofs.rows.extcs_from.Goals as goal

pub returns-in_err-row : goal.returns-in_err-row
returns-in_err-row c =
    let p = err_from_is_err_and c.from_residual.result c.from_residual.ensures.1 in
    rw (p.1, p.2) (stops_at c.in_err-row.field-0.0 ext_at (map ext c.loop.rows.items) c.args.count c.loop.counter c.loop.rest.now _ c.loop-test.true (c.in_err-row.ensures.gives _ c.loop.invariant.rows_seen) c.loop.invariant.so_far)

pub loop-preserved : goal.loop-preserved
loop-preserved c = record {
  so_far = rw (c.in_ok-push.ensures.items, map_push) (goes_on ext_at (map ext c.loop.rows.items) c.args.count c.loop.counter c.loop.rest.now (ext c.in_ok-row.row) c.in_ok-row.after.now _ c.loop-test.true (c.in_ok-row.ensures.gives (map ext c.loop.rows.items) c.loop.invariant.rows_seen) c.loop.invariant.so_far);
  rows_seen = rw (c.in_ok-push.ensures.items, map_push, map_push) (c.in_ok-row.ensures.seen (map ext c.loop.rows.items) c.loop.invariant.rows_seen);
}

pub returns : goal.returns
returns c = is_done ext_at (map ext c.loop.rows.items) c.args.count c.loop.counter c.loop.rest.now _ c.loop-test.false c.loop.invariant.so_far
