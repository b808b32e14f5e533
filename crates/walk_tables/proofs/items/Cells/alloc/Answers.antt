use Rattle.std.proofs.Common.{refl, arith, ◌+◌, ◌≤◌, length}
use Rattle.walk_tables.specs.Cells.{cells}
use Rattle.walk_tables.proofs.Pushed.{then, ready, kept-scope, kept-placed, adds-as}
use Rattle.walk_tables.proofs.Operations.{alloc-is}
use Rattle.walk_tables.proofs.items.Cells.alloc.Goals as goal

pub returns : goal.returns
returns c = λ s r scope typed.
    let t = c.in_ok-taken.ensures.adds r in
    let p : c.args.slot + length c.args.exprs.now ≤ length (cells c.takes.new.self) = omega (arith, c.requires, c.in_ok-taken.ensures.more) in
    let in_t = kept-scope t.extends scope in
    let f = c.in_ok-filled.ensures s (ready t) in_t typed p in
    let passed = c.in_ok-passed.ensures.adds (ready f) in
    let w = c.in_ok-cell.ensures s (ready passed) (kept-scope passed.extends (kept-scope f.extends in_t)) typed (kept-placed passed.extends (kept-placed f.extends p)) in
    adds-as (alloc-is s _ c.args.slot c.args.at c.args.exprs.now refl) (then w (then passed (then f t)))
