use Rattle.walk_tables.proofs.Pushed.{then, ready, kept-scope, kept-placed, adds-as}
use Rattle.walk_tables.proofs.Parts.{operand-is}
use Rattle.walk_tables.proofs.items.Cells.operand.Goals as goal

pub returns : goal.returns
returns c = λ s r scope typed placed.
    let b = c.in_ok-bound.ensures.adds r in
    let e = c.in_ok-cell.ensures s (ready b) (kept-scope b.extends scope) typed (kept-placed b.extends placed) in
    adds-as (operand-is s c.args.free c.args.slot c.args.expr.now c.is_address-address.result c.is_address-address.ensures typed) (then e b)
