use Rattle.std.proofs.Common.{◌+◌, length, refl, ap, ◌∙◌}
use Rattle.std.proofs.lemmas.Result.{on_ok_weaker}
use Rattle.cmm_tree.specs.Rows.{expressions_of}
use Rattle.cmm_tree.specs.View.{label_view}
use Rattle.selection_rules.specs.Select.{visible_label, regs_of, select_waiting}
use Rattle.selection_operands.proofs.RowForms.{exit-is}
use Rattle.selection_scope.specs.Scoping.{LexicalScope}
use Rattle.selection_operands.proofs.leaving.exit.Goals as goal

pub returns-clause-code : goal.returns-clause-code
returns-clause-code g c =
    let row = c.args.node.place.base + 1 in
    let base = row + length c.args.arguments.now in
    let es = expressions_of c.args.arguments.now in
    let regs = regs_of c.args.scope.now.names row es in
    let target = visible_label c.args.scope.now.labels (label_view c.args.label.now) in
    on_ok_weaker c.put_row-2.result
    (λ h. λ at label_at.
    exit-is c.args.scope.now c.args.node.place (label_view c.args.label.now) c.args.arguments.now row base regs target
    c.args.code.now c.put_exit.new.code c.put_row.new.code c.put_row-2.new.code at label_at
    refl refl refl refl
    c.in_ok-put_exit.ensures
    c.in_ok-put_row.ensures.code
    (h ∙ ap (λ (s : LexicalScope). select_waiting s.names s.labels row base es c.put_row.new.code) c.in_ok-put_row.ensures.scope))
    c.put_row-2.ensures.code
