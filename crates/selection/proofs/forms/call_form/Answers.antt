use Rattle.std.proofs.lemmas.Result.{on_ok_weaker}
use Rattle.walk_tables.proofs.Shapes.{extcall-shape, app-shape}
use Rattle.selection.proofs.Nodes.{parts-of, type-of, code-of, room-of}
use Rattle.selection_scope.specs.Scoping.{scoped_names}
use Rattle.selection.proofs.forms.call_form.Goals as goal

pub app-requires-clause-callee_typed : goal.app-requires-clause-callee_typed
app-requires-clause-callee_typed g c =
    (parts-of (scoped_names c.args.scope.now) c.args.expr.now _ _ _ c.in-App.is (app-shape (scoped_names c.args.scope.now) c.args.expr.now.at c.in-App.callee c.in-App.arguments c.in-App.result c.in-App.result_at c.deref.result.now c.as_slice.result.now c.deref.ensures c.as_slice.ensures.value) c.requires.typed).0

pub app-requires-clause-typed : goal.app-requires-clause-typed
app-requires-clause-typed g c =
    (parts-of (scoped_names c.args.scope.now) c.args.expr.now _ _ _ c.in-App.is (app-shape (scoped_names c.args.scope.now) c.args.expr.now.at c.in-App.callee c.in-App.arguments c.in-App.result c.in-App.result_at c.deref.result.now c.as_slice.result.now c.deref.ensures c.as_slice.ensures.value) c.requires.typed).1

pub app-requires-clause-room : goal.app-requires-clause-room
app-requires-clause-room g c = room-of (scoped_names c.args.scope.now) c.args.expr.now _ _ _ c.in-App.is (app-shape (scoped_names c.args.scope.now) c.args.expr.now.at c.in-App.callee c.in-App.arguments c.in-App.result c.in-App.result_at c.deref.result.now c.as_slice.result.now c.deref.ensures c.as_slice.ensures.value) c.args.place.base c.requires.room

pub app-requires-clause-ty : goal.app-requires-clause-ty
app-requires-clause-ty g c = λ at at2. type-of (scoped_names c.args.scope.now) c.args.expr.now _ _ _ c.in-App.is (app-shape (scoped_names c.args.scope.now) c.args.expr.now.at c.in-App.callee c.in-App.arguments c.in-App.result c.in-App.result_at c.deref.result.now c.as_slice.result.now c.deref.ensures c.as_slice.ensures.value) c.requires.typed

pub returns-in-App-clause-code : goal.returns-in-App-clause-code
returns-in-App-clause-code g c =
    on_ok_weaker c.app.result
    (λ h. code-of (scoped_names c.args.scope.now) c.args.scope.now c.args.place c.args.expr.now _ _ _ c.args.code.now c.app.new.code c.in-App.is (app-shape (scoped_names c.args.scope.now) c.args.expr.now.at c.in-App.callee c.in-App.arguments c.in-App.result c.in-App.result_at c.deref.result.now c.as_slice.result.now c.deref.ensures c.as_slice.ensures.value) (h c.args.expr.now.at c.in-App.result_at))
    c.app.ensures.code

pub extcall-requires-clause-typed : goal.extcall-requires-clause-typed
extcall-requires-clause-typed g c =
    parts-of (scoped_names c.args.scope.now) c.args.expr.now _ _ _ c.in-Extcall.is (extcall-shape (scoped_names c.args.scope.now) c.args.expr.now.at c.in-Extcall.frame c.in-Extcall.name c.in-Extcall.arguments c.in-Extcall.result c.in-Extcall.result_at c.as_slice-in-Extcall.result.now c.as_slice-in-Extcall.ensures.value) c.requires.typed

pub extcall-requires-clause-room : goal.extcall-requires-clause-room
extcall-requires-clause-room g c = room-of (scoped_names c.args.scope.now) c.args.expr.now _ _ _ c.in-Extcall.is (extcall-shape (scoped_names c.args.scope.now) c.args.expr.now.at c.in-Extcall.frame c.in-Extcall.name c.in-Extcall.arguments c.in-Extcall.result c.in-Extcall.result_at c.as_slice-in-Extcall.result.now c.as_slice-in-Extcall.ensures.value) c.args.place.base c.requires.room

pub extcall-requires-clause-ty : goal.extcall-requires-clause-ty
extcall-requires-clause-ty g c = λ at at2. type-of (scoped_names c.args.scope.now) c.args.expr.now _ _ _ c.in-Extcall.is (extcall-shape (scoped_names c.args.scope.now) c.args.expr.now.at c.in-Extcall.frame c.in-Extcall.name c.in-Extcall.arguments c.in-Extcall.result c.in-Extcall.result_at c.as_slice-in-Extcall.result.now c.as_slice-in-Extcall.ensures.value) c.requires.typed

pub returns-in-Extcall-clause-code : goal.returns-in-Extcall-clause-code
returns-in-Extcall-clause-code g c =
    on_ok_weaker c.extcall.result
    (λ h. code-of (scoped_names c.args.scope.now) c.args.scope.now c.args.place c.args.expr.now _ _ _ c.args.code.now c.extcall.new.code c.in-Extcall.is (extcall-shape (scoped_names c.args.scope.now) c.args.expr.now.at c.in-Extcall.frame c.in-Extcall.name c.in-Extcall.arguments c.in-Extcall.result c.in-Extcall.result_at c.as_slice-in-Extcall.result.now c.as_slice-in-Extcall.ensures.value) (h c.args.expr.now.at c.in-Extcall.result_at))
    c.extcall.ensures.code
