use Rattle.std.proofs.Common.{append_assoc}
use Rattle.cmm_tree.specs.Rows.{expressions_of}
use Rattle.walk_tables.specs.Walks.{all_operands, operand_uses, call_tasks}
use Rattle.cmm_tree.specs.Measures.{count_of}
use Rattle.walk_tables.proofs.Pushed.{then, ready, kept-scope, adds-as}
use Rattle.walk_tables.proofs.items.Cells.extcall.Goals as goal

pub returns : goal.returns
returns c = λ s r scope typed.
    let e = c.in_ok-called.ensures.adds r in
    adds-as (append_assoc (all_operands s c.args.slot (expressions_of c.args.exprs.now)) (operand_uses c.args.at c.args.slot (count_of (expressions_of c.args.exprs.now))) (call_tasks c.args.frame c.args.at))
    (then (c.in_ok-cell.ensures s (ready e) (kept-scope e.extends scope) typed) e)
