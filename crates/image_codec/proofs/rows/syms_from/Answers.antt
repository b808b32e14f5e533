use Rattle.std.proofs.Common.{map, append_assoc}
use Rattle.std.proofs.lemmas.Result.{err_from_is_err_and}
use Rattle.std.proofs.lemmas.List.{map_push}
use Rattle.image_form.specs.Tables as tables
use Rattle.image_form.specs.Fields.{sym_at}
use Rattle.image_form.proofs.Loops.{goes_on, stops_at, is_done}
use Rattle.image_codec.proofs.rows.syms_from.Goals as goal

pub returns-in_err-row : goal.returns-in_err-row
returns-in_err-row c = λ names holds.
    let p = err_from_is_err_and c.from_residual.result c.from_residual.ensures.1 in
    let now = c.loop.invariant names holds in
    rw (p.1, p.2) (stops_at c.in_err-row.field-0.0 (sym_at names c.args.data_len) (map tables.sym c.loop.rows.items) c.args.count c.loop.counter c.loop.rest.now _ c.loop-test.true ((rw c.deref.ensures.value at c.in_err-row.ensures.gives) names now.1) now.0)

pub loop-preserved : goal.loop-preserved
loop-preserved c = λ names holds.
    let now = c.loop.invariant names holds in (
      rw (c.in_ok-push.ensures.items, map_push) (goes_on (sym_at names c.args.data_len) (map tables.sym c.loop.rows.items) c.args.count c.loop.counter c.loop.rest.now (tables.sym c.in_ok-row.row) c.in_ok-row.after.now _ c.loop-test.true ((rw c.deref.ensures.value at c.in_ok-row.ensures.gives) names now.1) now.0),
      rw (c.in_ok-push.ensures.items, map_push, map_push, ← append_assoc) ((rw c.deref.ensures.value at c.in_ok-row.ensures.seen) names now.1),
    )

pub returns : goal.returns
returns c = λ names holds. is_done (sym_at names c.args.data_len) (map tables.sym c.loop.rows.items) c.args.count c.loop.counter c.loop.rest.now _ c.loop-test.false (c.loop.invariant names holds).0
