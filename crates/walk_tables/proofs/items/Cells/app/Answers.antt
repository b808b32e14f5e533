use Rattle.walk_tables.proofs.Arena.{plus-one}
use Rattle.std.proofs.Common.{refl, arith, ◌+◌, ◌≤◌, length}
use Rattle.walk_tables.specs.Cells.{cells}
use Rattle.cmm_tree.specs.View.{expr_view}
use Rattle.walk_tables.proofs.Pushed.{then, ready, kept-scope, kept-placed, adds-as}
use Rattle.walk_tables.proofs.Operations.{app-is}
use Rattle.walk_tables.proofs.items.Cells.app.Goals as goal

pub returns : goal.returns
returns c = λ s r scope callee typed.
    let t = c.in_ok-taken.ensures.adds r in
    let p : (c.args.slot + 1) + length c.args.exprs.now ≤ length (cells c.calls.new.self) = omega (arith, c.requires, c.in_ok-taken.ensures.more) in
    let in_t = kept-scope t.extends scope in
    let fa = c.in_ok-first_filled.ensures s (ready t) in_t callee p in
    let p_fa = kept-placed fa.extends p in
    let in_fa = kept-scope fa.extends in_t in
    let f = c.in_ok-filled.ensures s (ready fa) in_fa typed p_fa in
    let p_f = kept-placed f.extends p_fa in
    let in_f = kept-scope f.extends in_fa in
    let wa = c.in_ok-first_done.ensures s (ready f) in_f callee p_f in
    let w = c.in_ok-cell.ensures s (ready wa) (kept-scope wa.extends in_f) typed (kept-placed wa.extends p_f) in
    adds-as (app-is s _ c.args.slot _ c.args.at (expr_view c.args.callee.now) c.args.exprs.now (plus-one c.args.slot) refl) (then w (then wa (then f (then fa t))))
