use Rattle.std.proofs.Common.{refl, arith, ◌+◌, ◌≤◌, length}
use Rattle.walk_tables.specs.Cells.{cells}
use Rattle.cmm_tree.specs.View.{expr_view}
use Rattle.walk_tables.proofs.Pushed.{then, ready, kept-scope, kept-placed, adds-as}
use Rattle.walk_tables.proofs.Operations.{on-one-is}
use Rattle.walk_tables.proofs.items.Cells.on_one.Goals as goal

pub returns : goal.returns
returns c = λ s r scope typed.
    let t = c.in_ok-taken.ensures.adds r in
    let p : c.args.slot + 1 ≤ length (cells c.takes.new.self) = omega (arith, c.requires, c.in_ok-taken.ensures.more) in
    let in_t = kept-scope t.extends scope in
    let f = c.in_ok-filled.ensures s (ready t) in_t typed p in
    let w = c.in_ok-cell.ensures s (ready f) (kept-scope f.extends in_t) typed (kept-placed f.extends p) in
    adds-as (on-one-is s _ c.args.slot c.args.at (expr_view c.args.expr.now) refl) (then w (then f t))
