use Rattle.walk_tables.proofs.Arena.{plus-one}
use Rattle.std.proofs.Common.{refl, arith, ◌+◌, ◌≤◌, length}
use Rattle.walk_tables.specs.Cells.{cells}
use Rattle.cmm_tree.specs.View.{expr_view}
use Rattle.walk_tables.proofs.Pushed.{then, ready, kept-scope, kept-placed, adds-as}
use Rattle.walk_tables.proofs.Operations.{on-two-is}
use Rattle.walk_tables.proofs.items.Cells.on_two.Goals as goal

pub returns : goal.returns
returns c = λ s r scope left right.
    let t = c.in_ok-taken.ensures.adds r in
    let p : c.args.slot + 2 ≤ length (cells c.takes.new.self) = omega (arith, c.requires, c.in_ok-taken.ensures.more) in
    let in_t = kept-scope t.extends scope in
    let fa = c.in_ok-first_filled.ensures s (ready t) in_t left p in
    let p_fa = kept-placed fa.extends p in
    let in_fa = kept-scope fa.extends in_t in
    let fb = c.in_ok-filled.ensures s (ready fa) in_fa right p_fa in
    let p_fb = kept-placed fb.extends p_fa in
    let in_fb = kept-scope fb.extends in_fa in
    let wa = c.in_ok-first_done.ensures s (ready fb) in_fb left p_fb in
    let wb = c.in_ok-cell.ensures s (ready wa) (kept-scope wa.extends in_fb) right (kept-placed wa.extends p_fb) in
    adds-as (on-two-is s _ c.args.slot _ c.args.at (expr_view c.args.left.now) (expr_view c.args.right.now) refl (plus-one c.args.slot)) (then wb (then wa (then fb (then fa t))))
