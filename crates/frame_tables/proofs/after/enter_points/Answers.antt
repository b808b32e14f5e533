use Rattle.std.proofs.Common.{◌<◌, length, sym, subst, arith}
use Rattle.lin_ir.specs.declared.lin.Line.{Line}
use Rattle.frame_tables.specs.Points.{IsRooted}
use Rattle.frame_tables.proofs.Pointing.{roots_none, roots_step}
use Rattle.frame_tables.proofs.after.enter_points.Goals as goal

pub loop-place-init : goal.loop-place-init
loop-place-init c = roots_none c.args.lin.now c.args.search.now c.args.reached

pub loop-place-preserved : goal.loop-place-preserved
loop-place-preserved c =
    let lt : c.loop-place.place < length c.as_slice-code.result.now = omega arith in
    roots_step c.args.lin.now c.args.search.now c.loop-place.search c.enter_point.new.search c.args.reached c.loop-place.place
    c.index-code-place.result c.as_slice-code.result.now c.as_slice-code.ensures lt c.index-code-place.is c.loop-place.invariant
    (subst (λ (i : Line). IsRooted c.loop-place.search c.enter_point.new.search i.op c.loop-place.place c.args.reached)
    (sym c.index-code-place.is) c.in_ok-enter_point.ensures)
