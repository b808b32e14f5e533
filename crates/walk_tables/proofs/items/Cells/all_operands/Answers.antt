use Rattle.std.proofs.Common.{refl}
use Rattle.walk_tables.proofs.Pushed.{then, ready, kept-scope, kept-placed, adds-as}
use Rattle.walk_tables.proofs.Parts.{operands-free}
use Rattle.walk_tables.proofs.items.Cells.all_operands.Goals as goal

pub returns : goal.returns
returns c = λ s r scope typed placed.
    let f = c.in_ok-filled.ensures s r scope typed placed in
    let w = c.in_ok-cell.ensures s (ready f) (kept-scope f.extends scope) typed (kept-placed f.extends placed) in
    adds-as (operands-free s _ c.args.slot c.args.exprs.now refl) (then w f)
