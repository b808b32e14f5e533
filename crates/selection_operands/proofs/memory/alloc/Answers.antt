use Rattle.std.proofs.Common.{◌+◌, ◌%◌, length, nat_le, refl, ap, ◌∙◌}
use Rattle.std.proofs.lemmas.Result.{on_ok_weaker}
use Rattle.cmm_tree.specs.Rows.{expressions_of}
use Rattle.selection_rules.specs.Select.{chunk_for, regs_of, select_waiting}
use Rattle.selection_operands.proofs.RowForms.{alloc-is}
use Rattle.selection_scope.specs.Scoping.{LexicalScope}
use Rattle.selection_operands.proofs.memory.alloc.Goals as goal

pub returns-clause-code : goal.returns-clause-code
returns-clause-code g c =
    let row = c.args.node.place.base + 3 in
    let base = row + length c.args.operands.now in
    let es = expressions_of c.args.operands.now in
    let regs = regs_of c.args.scope.now.names row es in
    on_ok_weaker c.put_row-2.result
    (λ h. λ at header_at.
    alloc-is c.args.scope.now c.args.node.place c.args.node.ty c.args.header c.args.operands.now row (length c.args.operands.now) base c.fresh-block.result c.fresh-word.result c.dest.result regs (chunk_for (nat_le (c.args.header % 256) 250))
    c.args.code.now c.move_to.new.self c.put_cells.new.code c.put_row.new.code c.store.new.self c.constant.new.self c.allocate.new.self c.put_row-2.new.code at header_at
    refl refl refl c.fresh-block.ensures c.fresh-word.ensures refl refl (c.requires.ty at header_at) c.dest.ensures
    c.in_ok-move_to.ensures
    c.in_ok-put_cells.ensures
    c.in_ok-put_row.ensures.code c.in_ok-store.ensures c.in_ok-constant.ensures c.in_ok-allocate.ensures
    (h ∙ ap (λ (s : LexicalScope). select_waiting s.names s.labels row base es c.allocate.new.self) c.in_ok-put_row.ensures.scope))
    c.put_row-2.ensures.code
