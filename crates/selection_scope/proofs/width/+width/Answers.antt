use Rattle.std.proofs.Common.{◌≡◌, suc, ◌+◌, List, length, ap, sym, ◌∙◌, arith}
use Rattle.std.proofs.lemmas.List.{drop_all}
use Rattle.cmm_tree.specs.Rows.{expressions_of, bindings_of, cases_of, handlers_of}
use Rattle.cmm_tree.specs.View.{expr_view, form_view}
use Rattle.cmm_tree.specs.declared.expr.Binding.{Binding}
use Rattle.cmm_tree.specs.declared.expr.Case.{Case}
use Rattle.cmm_tree.specs.declared.expr.Expr.{Expr}
use Rattle.cmm_tree.specs.declared.expr.Form.{Form}
use Rattle.cmm_tree.specs.declared.expr.Handler.{Handler}
use Rattle.cmm_tree.proofs.Rows.{seq_view, exit_view, alloc_view, extcall_view, app_view, let_view, switch_view, catch_view}
use Rattle.selection_rules.specs.Select.{width, width_row, width_bound, width_cases, width_handlers, width_labels, count_cases}
use Rattle.cmm_tree.specs.Measures.{count_of}
use Rattle.selection_scope.proofs.Counts.{count-row, count-cases}
use Rattle.selection_scope.proofs.width.+width.Goals as goal

pub with_expr-returns-in-Seq : goal.with_expr-returns-in-Seq
with_expr-returns-in-Seq t c =
    let at = c.args.expr.now.at in
    let whole : width (expr_view c.args.expr.now) ≡ suc (width_row (expressions_of c.as_slice-in-Seq.result.now)) =
    ap (λ (f : Form). width (form_view at f)) c.in-Seq.is ∙ ap width (seq_view at c.in-Seq.elements) ∙ ap (λ (l : List Expr). suc (width_row (expressions_of l))) (sym c.as_slice-in-Seq.ensures.value) in
    omega (arith, whole)

pub with_expr-returns-in-Exit : goal.with_expr-returns-in-Exit
with_expr-returns-in-Exit t c =
    let at = c.args.expr.now.at in
    let whole : width (expr_view c.args.expr.now) ≡ suc (width_row (expressions_of c.as_slice-in-Exit.result.now)) =
    ap (λ (f : Form). width (form_view at f)) c.in-Exit.is ∙ ap width (exit_view at c.in-Exit.label_at c.in-Exit.label c.in-Exit.arguments) ∙ ap (λ (l : List Expr). suc (width_row (expressions_of l))) (sym c.as_slice-in-Exit.ensures.value) in
    omega (arith, whole)

pub with_expr-returns-in-Alloc : goal.with_expr-returns-in-Alloc
with_expr-returns-in-Alloc t c =
    let at = c.args.expr.now.at in
    let whole : width (expr_view c.args.expr.now) ≡ suc (suc (suc (width_row (expressions_of c.as_slice-in-Alloc.result.now)))) =
    ap (λ (f : Form). width (form_view at f)) c.in-Alloc.is ∙ ap width (alloc_view at c.in-Alloc.header_at c.in-Alloc.header c.in-Alloc.operands) ∙ ap (λ (l : List Expr). suc (suc (suc (width_row (expressions_of l))))) (sym c.as_slice-in-Alloc.ensures.value) in
    omega (arith, whole)

pub with_row-returns : goal.with_row-returns
with_row-returns t c =
    let all = ap (λ l. width_row (expressions_of l)) (drop_all c.loop-expr.expr-index c.args.exprs.now c.loop-expr-test.false) in
    omega (arith, c.loop-expr.invariant.same, c.loop-expr.invariant.small, all)

pub with_bindings-returns : goal.with_bindings-returns
with_bindings-returns t c =
    let all = ap (λ l. width_bound (bindings_of l)) (drop_all c.loop-binding.binding-index c.args.bindings.now c.loop-binding-test.false) in
    omega (arith, c.loop-binding.invariant.same, c.loop-binding.invariant.small, all)

pub with_cases-returns : goal.with_cases-returns
with_cases-returns t c =
    let all = ap (λ l. width_cases (cases_of l)) (drop_all c.loop-case.case-index c.args.cases.now c.loop-case-test.false) in
    omega (arith, c.loop-case.invariant.same, c.loop-case.invariant.small, all)

pub with_handlers-returns : goal.with_handlers-returns
with_handlers-returns t c =
    let all = ap (λ l. width_handlers (handlers_of l)) (drop_all c.loop-handler.handler-index c.args.handlers.now c.loop-handler-test.false) in
    omega (arith, c.loop-handler.invariant.same, c.loop-handler.invariant.small, all)

pub with_expr-returns-in-Let : goal.with_expr-returns-in-Let
with_expr-returns-in-Let t c =
    let at = c.args.expr.now.at in
    let whole : width (expr_view c.args.expr.now) ≡ suc (width_bound (bindings_of c.as_slice.result.now) + width (expr_view c.deref.result.now)) =
    ap (λ (f : Form). width (form_view at f)) c.in-Let.is
    ∙ ap width (let_view at c.in-Let.bindings c.in-Let.body)
    ∙ ap (λ (l : List Binding). suc (width_bound (bindings_of l) + width (expr_view c.in-Let.body.value))) (sym c.as_slice.ensures.value)
    ∙ ap (λ (x : Expr). suc (width_bound (bindings_of c.as_slice.result.now) + width (expr_view x))) (sym c.deref.ensures) in
    omega (arith, whole)

pub with_expr-returns-in-App : goal.with_expr-returns-in-App
with_expr-returns-in-App t c =
    let at = c.args.expr.now.at in
    let whole : width (expr_view c.args.expr.now) ≡ suc (suc (suc (width (expr_view c.deref-in-App.result.now) + (width_row (expressions_of c.as_slice-in-App.result.now) + count_of (expressions_of c.as_slice-in-App.result.now))))) =
    ap (λ (f : Form). width (form_view at f)) c.in-App.is
    ∙ ap width (app_view at c.in-App.callee c.in-App.arguments c.in-App.result c.in-App.result_at)
    ∙ ap (λ (l : List Expr). suc (suc (suc (width (expr_view c.in-App.callee.value) + (width_row (expressions_of l) + count_of (expressions_of l)))))) (sym c.as_slice-in-App.ensures.value)
    ∙ ap (λ (x : Expr). suc (suc (suc (width (expr_view x) + (width_row (expressions_of c.as_slice-in-App.result.now) + count_of (expressions_of c.as_slice-in-App.result.now)))))) (sym c.deref-in-App.ensures) in
    omega (arith, whole, count-row c.as_slice-in-App.result.now, ap length c.as_slice-in-App.ensures.value, c.len.ensures)

pub with_expr-returns-in-Extcall : goal.with_expr-returns-in-Extcall
with_expr-returns-in-Extcall t c =
    let at = c.args.expr.now.at in
    let whole : width (expr_view c.args.expr.now) ≡ suc (suc (width_row (expressions_of c.as_slice-in-Extcall.result.now) + count_of (expressions_of c.as_slice-in-Extcall.result.now))) =
    ap (λ (f : Form). width (form_view at f)) c.in-Extcall.is
    ∙ ap width (extcall_view at c.in-Extcall.frame c.in-Extcall.name c.in-Extcall.arguments c.in-Extcall.result c.in-Extcall.result_at)
    ∙ ap (λ (l : List Expr). suc (suc (width_row (expressions_of l) + count_of (expressions_of l)))) (sym c.as_slice-in-Extcall.ensures.value) in
    omega (arith, whole, count-row c.as_slice-in-Extcall.result.now, ap length c.as_slice-in-Extcall.ensures.value, c.len-in-Extcall.ensures)

pub with_expr-returns-in-Catch : goal.with_expr-returns-in-Catch
with_expr-returns-in-Catch t c =
    let at = c.args.expr.now.at in
    let whole : width (expr_view c.args.expr.now) ≡ suc (suc (width_labels (handlers_of c.as_slice-in-Catch.result.now) + (width (expr_view c.deref-in-Catch.result.now) + width_handlers (handlers_of c.as_slice-in-Catch-2.result.now)))) =
    ap (λ (f : Form). width (form_view at f)) c.in-Catch.is
    ∙ ap width (catch_view at c.in-Catch.body c.in-Catch.handlers)
    ∙ ap (λ (l : List Handler). suc (suc (width_labels (handlers_of l) + (width (expr_view c.in-Catch.body.value) + width_handlers (handlers_of c.in-Catch.handlers.items))))) (sym c.as_slice-in-Catch.ensures.value)
    ∙ ap (λ (l : List Handler). suc (suc (width_labels (handlers_of c.as_slice-in-Catch.result.now) + (width (expr_view c.in-Catch.body.value) + width_handlers (handlers_of l))))) (sym c.as_slice-in-Catch-2.ensures.value)
    ∙ ap (λ (x : Expr). suc (suc (width_labels (handlers_of c.as_slice-in-Catch.result.now) + (width (expr_view x) + width_handlers (handlers_of c.as_slice-in-Catch-2.result.now))))) (sym c.deref-in-Catch.ensures) in
    omega (arith, whole)

pub with_expr-returns-in-Switch : goal.with_expr-returns-in-Switch
with_expr-returns-in-Switch t c =
    let at = c.args.expr.now.at in
    let whole : width (expr_view c.args.expr.now) ≡ suc (suc (suc (count_cases (cases_of c.as_slice-in-Switch.result.now) + (width (expr_view c.deref-in-Switch.result.now) + width_cases (cases_of c.as_slice-in-Switch.result.now))))) =
    ap (λ (f : Form). width (form_view at f)) c.in-Switch.is
    ∙ ap width (switch_view at c.in-Switch.size_at c.in-Switch.size c.in-Switch.selector c.in-Switch.cases)
    ∙ ap (λ (l : List Case). suc (suc (suc (count_cases (cases_of l) + (width (expr_view c.in-Switch.selector.value) + width_cases (cases_of l)))))) (sym c.as_slice-in-Switch.ensures.value)
    ∙ ap (λ (x : Expr). suc (suc (suc (count_cases (cases_of c.as_slice-in-Switch.result.now) + (width (expr_view x) + width_cases (cases_of c.as_slice-in-Switch.result.now)))))) (sym c.deref-in-Switch.ensures) in
    omega (arith, whole, count-cases c.as_slice-in-Switch.result.now, ap length c.as_slice-in-Switch.ensures.value, c.len-in-Switch.ensures)
