use Rattle.std.proofs.Common.{append_assoc, ◌∷◌, []}
use Rattle.cmm_tree.specs.View.{label_view}
use Rattle.cmm_tree.specs.Rows.{expressions_of}
use Rattle.walk_tables.specs.Cells.{cells}
use Rattle.walk_tables.specs.Walks.{all_operands, operand_uses, Exits}
use Rattle.cmm_tree.specs.Measures.{count_of}
use Rattle.walk_tables.proofs.Pushed.{then, ready, kept-scope, adds-as}
use Rattle.walk_tables.proofs.Catches.{adds-exits}
use Rattle.walk_tables.proofs.items.Cells.exits.Goals as goal

pub returns : goal.returns
returns c = λ s r scope typed.
    let e = adds-exits (cells c.args.self.now) (cells c.push.new.self) c.in_ok-exits.exits c.args.rest _ c.in_ok-exits.ensures r in
    adds-as (append_assoc (all_operands s c.args.slot (expressions_of c.args.exprs.now)) (operand_uses c.args.at c.args.slot (count_of (expressions_of c.args.exprs.now))) (Exits (label_view c.args.label.now) ∷ []))
    (then (c.in_ok-cell.ensures s (ready e) (kept-scope e.extends scope) typed) e)
