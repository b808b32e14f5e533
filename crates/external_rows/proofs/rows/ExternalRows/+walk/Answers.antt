use Rattle.std.proofs.Common.{[], ◌∷◌, ◌++◌, refl, sym, ap, ap₂, ◌∙◌}
use Rattle.cmm_tree.specs.declared.expr.Binding.{Binding}
use Rattle.cmm_tree.specs.declared.expr.Case.{Case}
use Rattle.cmm_tree.specs.declared.expr.Expr.{Expr}
use Rattle.cmm_tree.specs.declared.expr.Handler.{Handler}
use Rattle.assemble_rules.specs.Held.{calls_held, comps_among, calls_among, calls_among_bindings, calls_among_cases, calls_among_handlers}
use Rattle.assemble_rules.proofs.Held.{calls_of_float, calls_of_alloc, calls_of_seq, calls_of_exit, calls_of_app, calls_of_extcall, calls_of_let, calls_of_switch, calls_of_catch}
use Rattle.external_rows.proofs.Lookups.{row}
use Rattle.external_rows.proofs.Walks.{one_more, no_more, one, two, both, calls}
use Rattle.external_rows.proofs.rows.ExternalRows.+walk.Goals as goal

pub walk-returns-in-Float : goal.walk-returns-in-Float
walk-returns-in-Float t c =
    let is = ap calls_held c.in-Float.is ∙ (calls_of_float c.in-Float.word_at c.in-Float.operands ∙ ap calls_among (sym c.as_slice.ensures.value)) in
    one _ c.args.self.now _ _ _ is c.walk_row.ensures

pub walk-returns-in-Alloc : goal.walk-returns-in-Alloc
walk-returns-in-Alloc t c =
    let is = ap calls_held c.in-Alloc.is ∙ (calls_of_alloc c.in-Alloc.header_at c.in-Alloc.header c.in-Alloc.operands ∙ ap calls_among (sym c.as_slice-in-Alloc.ensures.value)) in
    one _ c.args.self.now _ _ _ is c.walk_row-in-Alloc.ensures

pub walk-returns-in-Seq : goal.walk-returns-in-Seq
walk-returns-in-Seq t c =
    let is = ap calls_held c.in-Seq.is ∙ (calls_of_seq c.in-Seq.elements ∙ ap calls_among (sym c.as_slice-in-Seq.ensures.value)) in
    one _ c.args.self.now _ _ _ is c.walk_row-in-Seq.ensures

pub walk-returns-in-Exit : goal.walk-returns-in-Exit
walk-returns-in-Exit t c =
    let is = ap calls_held c.in-Exit.is ∙ (calls_of_exit c.in-Exit.label_at c.in-Exit.label c.in-Exit.arguments ∙ ap calls_among (sym c.as_slice-in-Exit.ensures.value)) in
    one _ c.args.self.now _ _ _ is c.walk_row-in-Exit.ensures

pub walk-returns-in_ok-walk-in-Operator : goal.walk-returns-in_ok-walk-in-Operator
walk-returns-in_ok-walk-in-Operator t c =
    let is = ap calls_held c.in-Operator.is ∙ both (calls c.in-Operator.left.value) _ (calls c.in-Operator.right.value) _ (ap calls c.deref-in-Operator.ensures) (ap calls c.deref-in-Operator-2.ensures) in
    two _ c.args.self.now _ _ (calls c.deref-in-Operator.result.now) (calls c.deref-in-Operator-2.result.now) _ is c.in_ok-walk-in-Operator.ensures c.walk-in-Operator-2.ensures

pub walk-returns-in_ok-walk-in-Store : goal.walk-returns-in_ok-walk-in-Store
walk-returns-in_ok-walk-in-Store t c =
    let is = ap calls_held c.in-Store.is ∙ both (calls c.in-Store.address.value) _ (calls c.in-Store.value.value) _ (ap calls c.deref-in-Store.ensures) (ap calls c.deref-in-Store-2.ensures) in
    two _ c.args.self.now _ _ (calls c.deref-in-Store.result.now) (calls c.deref-in-Store-2.result.now) _ is c.in_ok-walk-in-Store.ensures c.walk-in-Store-2.ensures

pub walk-returns-in_ok-walk-in-Checkbound : goal.walk-returns-in_ok-walk-in-Checkbound
walk-returns-in_ok-walk-in-Checkbound t c =
    let is = ap calls_held c.in-Checkbound.is ∙ both (calls c.in-Checkbound.bound.value) _ (calls c.in-Checkbound.index.value) _ (ap calls c.deref-in-Checkbound.ensures) (ap calls c.deref-in-Checkbound-2.ensures) in
    two _ c.args.self.now _ _ (calls c.deref-in-Checkbound.result.now) (calls c.deref-in-Checkbound-2.result.now) _ is c.in_ok-walk-in-Checkbound.ensures c.walk-in-Checkbound-2.ensures

pub walk-returns-in_ok-walk-in-Try : goal.walk-returns-in_ok-walk-in-Try
walk-returns-in_ok-walk-in-Try t c =
    let is = ap calls_held c.in-Try.is ∙ both (calls c.in-Try.body.value) _ (calls c.in-Try.handler.value) _ (ap calls c.deref-in-Try.ensures) (ap calls c.deref-in-Try-2.ensures) in
    two _ c.args.self.now _ _ (calls c.deref-in-Try.result.now) (calls c.deref-in-Try-2.result.now) _ is c.in_ok-walk-in-Try.ensures c.walk-in-Try-2.ensures

pub walk-returns-in_ok-walk-in-App : goal.walk-returns-in_ok-walk-in-App
walk-returns-in_ok-walk-in-App t c =
    let parts = both (calls c.in-App.callee.value) _ (calls_among c.in-App.arguments.items) _ (ap calls c.deref-in-App.ensures) (ap calls_among c.as_slice-in-App.ensures.value) in
    let is = ap calls_held c.in-App.is ∙ (calls_of_app c.in-App.callee c.in-App.arguments c.in-App.result c.in-App.result_at ∙ parts) in
    two _ c.args.self.now _ _ (calls c.deref-in-App.result.now) (calls_among c.as_slice-in-App.result.now) _ is c.in_ok-walk-in-App.ensures c.walk_row-in-App.ensures

pub walk-returns-in_ok-walk-in-Switch : goal.walk-returns-in_ok-walk-in-Switch
walk-returns-in_ok-walk-in-Switch t c =
    let parts = both (calls c.in-Switch.selector.value) _ (calls_among_cases c.in-Switch.cases.items) _ (ap calls c.deref-in-Switch.ensures) (ap calls_among_cases c.as_slice-in-Switch.ensures.value) in
    let is = ap calls_held c.in-Switch.is ∙ (calls_of_switch c.in-Switch.size_at c.in-Switch.size c.in-Switch.selector c.in-Switch.cases ∙ parts) in
    two _ c.args.self.now _ _ (calls c.deref-in-Switch.result.now) (calls_among_cases c.as_slice-in-Switch.result.now) _ is c.in_ok-walk-in-Switch.ensures c.walk_cases.ensures

pub walk-returns-in_ok-walk-in-Catch : goal.walk-returns-in_ok-walk-in-Catch
walk-returns-in_ok-walk-in-Catch t c =
    let parts = both (calls c.in-Catch.body.value) _ (calls_among_handlers c.in-Catch.handlers.items) _ (ap calls c.deref-in-Catch.ensures) (ap calls_among_handlers c.as_slice-in-Catch.ensures.value) in
    let is = ap calls_held c.in-Catch.is ∙ (calls_of_catch c.in-Catch.body c.in-Catch.handlers ∙ parts) in
    two _ c.args.self.now _ _ (calls c.deref-in-Catch.result.now) (calls_among_handlers c.as_slice-in-Catch.result.now) _ is c.in_ok-walk-in-Catch.ensures c.walk_handlers.ensures

pub walk-returns-in_ok-walk_bindings-in-Let : goal.walk-returns-in_ok-walk_bindings-in-Let
walk-returns-in_ok-walk_bindings-in-Let t c =
    let parts = both (calls_among_bindings c.in-Let.bindings.items) _ (calls c.in-Let.body.value) _ (ap calls_among_bindings c.as_slice-in-Let.ensures.value) (ap calls c.deref.ensures) in
    let is = ap calls_held c.in-Let.is ∙ (calls_of_let c.in-Let.bindings c.in-Let.body ∙ parts) in
    two _ c.args.self.now _ _ (calls_among_bindings c.as_slice-in-Let.result.now) (calls c.deref.result.now) _ is c.in_ok-walk_bindings-in-Let.ensures c.walk.ensures

pub walk-returns-in_ok-walk-in-If-2 : goal.walk-returns-in_ok-walk-in-If-2
walk-returns-in_ok-walk-in-If-2 t c =
    let branches = both (calls c.in-If.on_true.value) _ (calls c.in-If.on_false.value) _ (ap calls c.deref-in-If-2.ensures) (ap calls c.deref-in-If-3.ensures) in
    let is = ap calls_held c.in-If.is ∙ both (calls c.in-If.condition.value) _ _ _ (ap calls c.deref-in-If.ensures) (sym branches) in
    let first = calls c.deref-in-If.result.now in
    let second = calls c.deref-in-If-2.result.now in
    let third = calls c.deref-in-If-3.result.now in
    two _ c.args.self.now _ _ first (second ++ third) _ is c.in_ok-walk-in-If.ensures (two _ _ _ _ second third (second ++ third) refl c.in_ok-walk-in-If-2.ensures c.walk-in-If-3.ensures)

pub walk-returns-in_ok-note-in-Extcall : goal.walk-returns-in_ok-note-in-Extcall
walk-returns-in_ok-note-in-Extcall t c =
    let e = c.in-Extcall in
    let args = c.as_slice-in-Extcall-2.result.now in
    let comps = c.in_ok-comps-in-Extcall.ensures ∙ ap comps_among c.as_slice-in-Extcall.ensures.value in
    let parts = ap₂ (λ cs es. row e.name cs e.answer ∷ es) (sym comps) (ap calls_among (sym c.as_slice-in-Extcall-2.ensures.value)) in
    let is = ap calls_held e.is ∙ (calls_of_extcall e.frame e.name e.arguments e.answer e.result_at ∙ parts) in
    two _ c.args.self.now _ _ (row e.name c.in_ok-comps-in-Extcall.comps.items e.answer ∷ []) (calls_among args) _ is c.in_ok-note-in-Extcall.ensures c.walk_row-in-Extcall.ensures

pub walk_row-loop-expr-preserved : goal.walk_row-loop-expr-preserved
walk_row-loop-expr-preserved t c =
    one_more calls_among (λ (x : Expr). calls x) (λ x xs. refl) c.args.exprs.now c.loop-expr.expr-index c.expr-item.result c.loop-expr.self _ _
    c.loop-expr-test.true c.expr-item.is c.in_ok-walk.ensures c.loop-expr.invariant

pub walk_row-returns : goal.walk_row-returns
walk_row-returns t c = no_more calls_among refl c.args.exprs.now c.loop-expr.expr-index c.loop-expr.self _ c.loop-expr-test.false c.loop-expr.invariant

pub walk_bindings-loop-binding-preserved : goal.walk_bindings-loop-binding-preserved
walk_bindings-loop-binding-preserved t c =
    one_more calls_among_bindings (λ (x : Binding). calls x.value) (λ x xs. refl) c.args.bindings.now c.loop-binding.binding-index c.binding-item.result c.loop-binding.self _ _
    c.loop-binding-test.true c.binding-item.is c.in_ok-walk.ensures c.loop-binding.invariant

pub walk_bindings-returns : goal.walk_bindings-returns
walk_bindings-returns t c = no_more calls_among_bindings refl c.args.bindings.now c.loop-binding.binding-index c.loop-binding.self _ c.loop-binding-test.false c.loop-binding.invariant

pub walk_cases-loop-case-preserved : goal.walk_cases-loop-case-preserved
walk_cases-loop-case-preserved t c =
    one_more calls_among_cases (λ (x : Case). calls x.body) (λ x xs. refl) c.args.cases.now c.loop-case.case-index c.case-item.result c.loop-case.self _ _
    c.loop-case-test.true c.case-item.is c.in_ok-walk.ensures c.loop-case.invariant

pub walk_cases-returns : goal.walk_cases-returns
walk_cases-returns t c = no_more calls_among_cases refl c.args.cases.now c.loop-case.case-index c.loop-case.self _ c.loop-case-test.false c.loop-case.invariant

pub walk_handlers-loop-handler-preserved : goal.walk_handlers-loop-handler-preserved
walk_handlers-loop-handler-preserved t c =
    one_more calls_among_handlers (λ (x : Handler). calls x.body) (λ x xs. refl) c.args.handlers.now c.loop-handler.handler-index c.handler-item.result c.loop-handler.self _ _
    c.loop-handler-test.true c.handler-item.is c.in_ok-walk.ensures c.loop-handler.invariant

pub walk_handlers-returns : goal.walk_handlers-returns
walk_handlers-returns t c = no_more calls_among_handlers refl c.args.handlers.now c.loop-handler.handler-index c.loop-handler.self _ c.loop-handler-test.false c.loop-handler.invariant
