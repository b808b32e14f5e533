use Rattle.std.proofs.Common.{◌≡◌, ◌+◌, false, length, refl, ap, ◌∙◌}
use Rattle.std.proofs.lemmas.Result.{on_ok_weaker}
use Rattle.cmm_tree.specs.Rows.{expressions_of}
use Rattle.cmm_tree.specs.View.{expr_view}
use Rattle.selection_rules.specs.Select.{only_when, call_of, moves_all, regs_of, seats, select, select_filled, select_waiting, called_symbol}
use Rattle.selection_operands.proofs.CallNumbers.{row-is, seated-is, given-is, base-is}
use Rattle.selection_operands.proofs.RowForms.{app-is}
use Rattle.selection_operands.specs.Operands.{lacks}
use Rattle.selection_scope.specs.Scoping.{LexicalScope}
use Rattle.selection_operands.proofs.leaving.app.Goals as goal

pub returns-clause-code : goal.returns-clause-code
returns-clause-code g c =
    let s = c.args.scope.now in
    let node = c.args.node in
    let row = node.place.base + 2 in
    let numbers = c.call_numbers-numbers.result in
    let inner = c.behind-inner.result in
    let count = length c.args.arguments.now in
    let es = expressions_of c.args.arguments.now in
    let e = expr_view c.args.callee.now in
    let f = c.fresh-register.result in
    let regs = regs_of s.names row es in
    let args = seats 0 numbers.seated regs in
    let valued = c.is_valued.result in
    let d = c.dest.result in
    let left = call_of node.place.tail valued c.args.written (called_symbol e) f args numbers.given d c.args.code.now in
    let first = c.in_ok-put_operand.ensures.scope in
    let second = c.in_ok-put_row.ensures.scope ∙ first in
    let is = c.call_numbers-numbers.ensures in
    let moved : c.put_call.new.code ≡ moves_all regs args left =
    c.in_ok-put_call.ensures ∙ ap (λ k. moves_all (regs_of s.names k es) (seats 0 numbers.seated (regs_of s.names k es)) (call_of node.place.tail valued c.args.written (called_symbol e) f (seats 0 numbers.seated (regs_of s.names k es)) numbers.given d c.args.code.now)) (row-is row count numbers is) in
    on_ok_weaker c.put_row-2.result
    (λ h. λ at result_at.
    app-is s node.place node.ty c.args.callee.now c.args.arguments.now c.args.written row count numbers.seated numbers.given numbers.base inner c.is_light_address-light.result (lacks (called_symbol e)) c.is_early.result valued f d regs args
    c.args.code.now left c.put_call.new.code c.put_operand.new.code c.put_row.new.code c.put_operand-2.new.code c.put_row-2.new.code at result_at
    refl refl (seated-is row count numbers is) (given-is row count numbers is) (base-is row count numbers is) c.behind-inner.ensures c.requires.callee_typed c.fresh-register.ensures c.is_light_address-light.ensures refl c.is_early.ensures
    refl refl (c.requires.ty at result_at) c.is_valued.ensures c.dest.ensures
    refl
    moved
    c.in_ok-put_operand.ensures.code
    (c.in_ok-put_row.ensures.code ∙ ap (λ (v : LexicalScope). select_filled v.names v.labels row inner es c.put_operand.new.code) first)
    (c.in_ok-put_operand-2.ensures.code ∙ ap (λ (v : LexicalScope). only_when c.is_early.result (select v.names v.labels false false f numbers.base e) c.put_row.new.code) second)
    (h ∙ ap (λ (v : LexicalScope). select_waiting v.names v.labels row inner es c.put_operand-2.new.code) (c.in_ok-put_operand-2.ensures.scope ∙ second)))
    c.put_row-2.ensures.code
