use Rattle.std.proofs.lemmas.Result.{IfOk-weaker}
use Rattle.walk_tables.specs.Walks.{names}
use Rattle.walk_tables.proofs.Shapes.{by-shape, seq-shape, exit-shape, alloc-shape, extcall-shape, app-shape, let-shape, if-shape, switch-shape, catch-shape, try-shape}
use Rattle.walk_tables.proofs.items.Cells.form.Goals as goal

pub returns-in-Let : goal.returns-in-Let
returns-in-Let c =
    IfOk-weaker c.enters.result _ _
    (λ cell h. λ s r scope typed. by-shape s c.args.slot c.args.expr.now _ _ _ c.in-Let.is (let-shape (names s) c.args.expr.now.at c.in-Let.bindings c.in-Let.body c.as_slice.result.now c.deref.result.now c.as_slice.ensures.value c.deref.ensures) typed (λ q. h s r scope q.0 q.1))
    c.enters.ensures

pub returns-in-Alloc : goal.returns-in-Alloc
returns-in-Alloc c =
    IfOk-weaker c.alloc.result _ _
    (λ cell h. λ s r scope typed. by-shape s c.args.slot c.args.expr.now _ _ _ c.in-Alloc.is (alloc-shape (names s) c.args.expr.now.at c.in-Alloc.header_at c.in-Alloc.header c.in-Alloc.operands c.as_slice-in-Alloc.result.now c.as_slice-in-Alloc.ensures.value) typed (λ q. h s r scope q))
    c.alloc.ensures

pub returns-in-App : goal.returns-in-App
returns-in-App c =
    IfOk-weaker c.app.result _ _
    (λ cell h. λ s r scope typed. by-shape s c.args.slot c.args.expr.now _ _ _ c.in-App.is (app-shape (names s) c.args.expr.now.at c.in-App.callee c.in-App.arguments c.in-App.result c.in-App.result_at c.deref-in-App.result.now c.as_slice-in-App.result.now c.deref-in-App.ensures c.as_slice-in-App.ensures.value) typed (λ q. h s r scope q.0 q.1))
    c.app.ensures

pub returns-in-Extcall : goal.returns-in-Extcall
returns-in-Extcall c =
    IfOk-weaker c.extcall.result _ _
    (λ cell h. λ s r scope typed. by-shape s c.args.slot c.args.expr.now _ _ _ c.in-Extcall.is (extcall-shape (names s) c.args.expr.now.at c.in-Extcall.frame c.in-Extcall.name c.in-Extcall.arguments c.in-Extcall.result c.in-Extcall.result_at c.as_slice-in-Extcall.result.now c.as_slice-in-Extcall.ensures.value) typed (λ q. h s r scope q))
    c.extcall.ensures

pub returns-in-Seq : goal.returns-in-Seq
returns-in-Seq c =
    IfOk-weaker c.in_order.result _ _
    (λ cell h. λ s r scope typed. by-shape s c.args.slot c.args.expr.now _ _ _ c.in-Seq.is (seq-shape (names s) c.args.expr.now.at c.in-Seq.elements c.as_slice-in-Seq.result.now c.as_slice-in-Seq.ensures.value) typed (λ q. h s r scope q))
    c.in_order.ensures

pub returns-in-If : goal.returns-in-If
returns-in-If c =
    IfOk-weaker c.either_of.result _ _
    (λ cell h. λ s r scope typed. by-shape s c.args.slot c.args.expr.now _ _ _ c.in-If.is (if-shape (names s) c.args.expr.now.at c.in-If.condition c.in-If.on_true c.in-If.on_false c.deref-in-If.result.now c.deref-in-If-2.result.now c.deref-in-If-3.result.now c.deref-in-If.ensures c.deref-in-If-2.ensures c.deref-in-If-3.ensures) typed (λ q. h s r scope q.0 q.1 q.2))
    c.either_of.ensures

pub returns-in-Switch : goal.returns-in-Switch
returns-in-Switch c =
    IfOk-weaker c.switch.result _ _
    (λ cell h. λ s r scope typed. by-shape s c.args.slot c.args.expr.now _ _ _ c.in-Switch.is (switch-shape (names s) c.args.expr.now.at c.in-Switch.size_at c.in-Switch.size c.in-Switch.selector c.in-Switch.cases c.deref-in-Switch.result.now c.as_slice-in-Switch.result.now c.deref-in-Switch.ensures c.as_slice-in-Switch.ensures.value) typed (λ q. h s r scope q.0 q.1))
    c.switch.ensures

pub returns-in-Catch : goal.returns-in-Catch
returns-in-Catch c =
    IfOk-weaker c.catch.result _ _
    (λ cell h. λ s r scope typed. by-shape s c.args.slot c.args.expr.now _ _ _ c.in-Catch.is (catch-shape (names s) c.args.expr.now.at c.in-Catch.body c.in-Catch.handlers c.deref-in-Catch.result.now c.as_slice-in-Catch.result.now c.deref-in-Catch.ensures c.as_slice-in-Catch.ensures.value) typed (λ q. h s r scope q.0 q.1))
    c.catch.ensures

pub returns-in-Exit : goal.returns-in-Exit
returns-in-Exit c =
    IfOk-weaker c.exits.result _ _
    (λ cell h. λ s r scope typed. by-shape s c.args.slot c.args.expr.now _ _ _ c.in-Exit.is (exit-shape (names s) c.args.expr.now.at c.in-Exit.label_at c.in-Exit.label c.in-Exit.arguments c.as_slice-in-Exit.result.now c.as_slice-in-Exit.ensures.value) typed (λ q. h s r scope q))
    c.exits.ensures

pub returns-in-Try : goal.returns-in-Try
returns-in-Try c =
    IfOk-weaker c.tried.result _ _
    (λ cell h. λ s r scope typed. by-shape s c.args.slot c.args.expr.now _ _ _ c.in-Try.is (try-shape (names s) c.args.expr.now.at c.in-Try.name_at c.in-Try.name c.in-Try.body c.in-Try.handler c.deref-in-Try.result.now c.deref-in-Try-2.result.now c.deref-in-Try.ensures c.deref-in-Try-2.ensures) typed (λ q. h s r scope q.0 q.1))
    c.tried.ensures
