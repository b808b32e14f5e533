use Rattle.std.proofs.lemmas.Result.{on_ok_weaker}
use Rattle.walk_tables.proofs.Shapes.{seq-shape, exit-shape, alloc-shape, let-shape, switch-shape, catch-shape}
use Rattle.selection.proofs.BoxedForms.{assign-shape, operator-shape, load-shape, store-shape, checkbound-shape, raise-shape, if-shape, try-shape}
use Rattle.selection.proofs.Nodes.{parts-of, type-of, code-of, room-of}
use Rattle.selection_scope.specs.Scoping.{scoped_names}
use Rattle.selection.proofs.forms.form.Goals as goal

pub let_in-requires-clause-typed : goal.let_in-requires-clause-typed
let_in-requires-clause-typed g c =
    (parts-of (scoped_names c.args.scope.now) c.args.expr.now _ _ _ c.in-Let.is (let-shape (scoped_names c.args.scope.now) c.args.expr.now.at c.in-Let.bindings c.in-Let.body c.as_slice.result.now c.deref.result.now c.as_slice.ensures.value c.deref.ensures) c.requires.typed).0

pub let_in-requires-clause-body_typed : goal.let_in-requires-clause-body_typed
let_in-requires-clause-body_typed g c =
    (parts-of (scoped_names c.args.scope.now) c.args.expr.now _ _ _ c.in-Let.is (let-shape (scoped_names c.args.scope.now) c.args.expr.now.at c.in-Let.bindings c.in-Let.body c.as_slice.result.now c.deref.result.now c.as_slice.ensures.value c.deref.ensures) c.requires.typed).1

pub let_in-requires-clause-room : goal.let_in-requires-clause-room
let_in-requires-clause-room g c = room-of (scoped_names c.args.scope.now) c.args.expr.now _ _ _ c.in-Let.is (let-shape (scoped_names c.args.scope.now) c.args.expr.now.at c.in-Let.bindings c.in-Let.body c.as_slice.result.now c.deref.result.now c.as_slice.ensures.value c.deref.ensures) c.args.place.base c.requires.room

pub let_in-requires-clause-ty : goal.let_in-requires-clause-ty
let_in-requires-clause-ty g c = λ at. type-of (scoped_names c.args.scope.now) c.args.expr.now _ _ _ c.in-Let.is (let-shape (scoped_names c.args.scope.now) c.args.expr.now.at c.in-Let.bindings c.in-Let.body c.as_slice.result.now c.deref.result.now c.as_slice.ensures.value c.deref.ensures) c.requires.typed

pub returns-in-Let-clause-code : goal.returns-in-Let-clause-code
returns-in-Let-clause-code g c =
    on_ok_weaker c.let_in.result
    (λ h. code-of (scoped_names c.args.scope.now) c.args.scope.now c.args.place c.args.expr.now _ _ _ c.args.code.now c.let_in.new.code c.in-Let.is (let-shape (scoped_names c.args.scope.now) c.args.expr.now.at c.in-Let.bindings c.in-Let.body c.as_slice.result.now c.deref.result.now c.as_slice.ensures.value c.deref.ensures) (h c.args.expr.now.at))
    c.let_in.ensures.code

pub assign-requires-clause-typed : goal.assign-requires-clause-typed
assign-requires-clause-typed g c =
    parts-of (scoped_names c.args.scope.now) c.args.expr.now _ _ _ c.in-Assign.is (assign-shape (scoped_names c.args.scope.now) c.args.expr.now.at c.in-Assign.name_at c.in-Assign.name c.in-Assign.value c.deref-in-Assign.result.now c.deref-in-Assign.ensures) c.requires.typed

pub assign-requires-clause-room : goal.assign-requires-clause-room
assign-requires-clause-room g c = room-of (scoped_names c.args.scope.now) c.args.expr.now _ _ _ c.in-Assign.is (assign-shape (scoped_names c.args.scope.now) c.args.expr.now.at c.in-Assign.name_at c.in-Assign.name c.in-Assign.value c.deref-in-Assign.result.now c.deref-in-Assign.ensures) c.args.place.base c.requires.room

pub assign-requires-clause-ty : goal.assign-requires-clause-ty
assign-requires-clause-ty g c = λ at at2. type-of (scoped_names c.args.scope.now) c.args.expr.now _ _ _ c.in-Assign.is (assign-shape (scoped_names c.args.scope.now) c.args.expr.now.at c.in-Assign.name_at c.in-Assign.name c.in-Assign.value c.deref-in-Assign.result.now c.deref-in-Assign.ensures) c.requires.typed

pub returns-in-Assign-clause-code : goal.returns-in-Assign-clause-code
returns-in-Assign-clause-code g c =
    on_ok_weaker c.assign.result
    (λ h. code-of (scoped_names c.args.scope.now) c.args.scope.now c.args.place c.args.expr.now _ _ _ c.args.code.now c.assign.new.code c.in-Assign.is (assign-shape (scoped_names c.args.scope.now) c.args.expr.now.at c.in-Assign.name_at c.in-Assign.name c.in-Assign.value c.deref-in-Assign.result.now c.deref-in-Assign.ensures) (h c.args.expr.now.at c.in-Assign.name_at))
    c.assign.ensures.code

pub operator-requires-clause-left_typed : goal.operator-requires-clause-left_typed
operator-requires-clause-left_typed g c =
    (parts-of (scoped_names c.args.scope.now) c.args.expr.now _ _ _ c.in-Operator.is (operator-shape (scoped_names c.args.scope.now) c.args.expr.now.at c.in-Operator.op c.in-Operator.left c.in-Operator.right c.deref-in-Operator.result.now c.deref-in-Operator-2.result.now c.deref-in-Operator.ensures c.deref-in-Operator-2.ensures) c.requires.typed).0

pub operator-requires-clause-right_typed : goal.operator-requires-clause-right_typed
operator-requires-clause-right_typed g c =
    (parts-of (scoped_names c.args.scope.now) c.args.expr.now _ _ _ c.in-Operator.is (operator-shape (scoped_names c.args.scope.now) c.args.expr.now.at c.in-Operator.op c.in-Operator.left c.in-Operator.right c.deref-in-Operator.result.now c.deref-in-Operator-2.result.now c.deref-in-Operator.ensures c.deref-in-Operator-2.ensures) c.requires.typed).1

pub operator-requires-clause-room : goal.operator-requires-clause-room
operator-requires-clause-room g c = room-of (scoped_names c.args.scope.now) c.args.expr.now _ _ _ c.in-Operator.is (operator-shape (scoped_names c.args.scope.now) c.args.expr.now.at c.in-Operator.op c.in-Operator.left c.in-Operator.right c.deref-in-Operator.result.now c.deref-in-Operator-2.result.now c.deref-in-Operator.ensures c.deref-in-Operator-2.ensures) c.args.place.base c.requires.room

pub operator-requires-clause-ty : goal.operator-requires-clause-ty
operator-requires-clause-ty g c = λ at. type-of (scoped_names c.args.scope.now) c.args.expr.now _ _ _ c.in-Operator.is (operator-shape (scoped_names c.args.scope.now) c.args.expr.now.at c.in-Operator.op c.in-Operator.left c.in-Operator.right c.deref-in-Operator.result.now c.deref-in-Operator-2.result.now c.deref-in-Operator.ensures c.deref-in-Operator-2.ensures) c.requires.typed

pub returns-in-Operator-clause-code : goal.returns-in-Operator-clause-code
returns-in-Operator-clause-code g c =
    on_ok_weaker c.operator.result
    (λ h. code-of (scoped_names c.args.scope.now) c.args.scope.now c.args.place c.args.expr.now _ _ _ c.args.code.now c.operator.new.code c.in-Operator.is (operator-shape (scoped_names c.args.scope.now) c.args.expr.now.at c.in-Operator.op c.in-Operator.left c.in-Operator.right c.deref-in-Operator.result.now c.deref-in-Operator-2.result.now c.deref-in-Operator.ensures c.deref-in-Operator-2.ensures) (h c.args.expr.now.at))
    c.operator.ensures.code

pub load-requires-clause-typed : goal.load-requires-clause-typed
load-requires-clause-typed g c =
    parts-of (scoped_names c.args.scope.now) c.args.expr.now _ _ _ c.in-Load.is (load-shape (scoped_names c.args.scope.now) c.args.expr.now.at c.in-Load.chunk c.in-Load.address c.deref-in-Load.result.now c.deref-in-Load.ensures) c.requires.typed

pub load-requires-clause-room : goal.load-requires-clause-room
load-requires-clause-room g c = room-of (scoped_names c.args.scope.now) c.args.expr.now _ _ _ c.in-Load.is (load-shape (scoped_names c.args.scope.now) c.args.expr.now.at c.in-Load.chunk c.in-Load.address c.deref-in-Load.result.now c.deref-in-Load.ensures) c.args.place.base c.requires.room

pub load-requires-clause-ty : goal.load-requires-clause-ty
load-requires-clause-ty g c = λ at. type-of (scoped_names c.args.scope.now) c.args.expr.now _ _ _ c.in-Load.is (load-shape (scoped_names c.args.scope.now) c.args.expr.now.at c.in-Load.chunk c.in-Load.address c.deref-in-Load.result.now c.deref-in-Load.ensures) c.requires.typed

pub returns-in-Load-clause-code : goal.returns-in-Load-clause-code
returns-in-Load-clause-code g c =
    on_ok_weaker c.load.result
    (λ h. code-of (scoped_names c.args.scope.now) c.args.scope.now c.args.place c.args.expr.now _ _ _ c.args.code.now c.load.new.code c.in-Load.is (load-shape (scoped_names c.args.scope.now) c.args.expr.now.at c.in-Load.chunk c.in-Load.address c.deref-in-Load.result.now c.deref-in-Load.ensures) (h c.args.expr.now.at))
    c.load.ensures.code

pub store-requires-clause-address_typed : goal.store-requires-clause-address_typed
store-requires-clause-address_typed g c =
    (parts-of (scoped_names c.args.scope.now) c.args.expr.now _ _ _ c.in-Store.is (store-shape (scoped_names c.args.scope.now) c.args.expr.now.at c.in-Store.chunk c.in-Store.to c.in-Store.value c.deref-in-Store.result.now c.deref-in-Store-2.result.now c.deref-in-Store.ensures c.deref-in-Store-2.ensures) c.requires.typed).0

pub store-requires-clause-value_typed : goal.store-requires-clause-value_typed
store-requires-clause-value_typed g c =
    (parts-of (scoped_names c.args.scope.now) c.args.expr.now _ _ _ c.in-Store.is (store-shape (scoped_names c.args.scope.now) c.args.expr.now.at c.in-Store.chunk c.in-Store.to c.in-Store.value c.deref-in-Store.result.now c.deref-in-Store-2.result.now c.deref-in-Store.ensures c.deref-in-Store-2.ensures) c.requires.typed).1

pub store-requires-clause-room : goal.store-requires-clause-room
store-requires-clause-room g c = room-of (scoped_names c.args.scope.now) c.args.expr.now _ _ _ c.in-Store.is (store-shape (scoped_names c.args.scope.now) c.args.expr.now.at c.in-Store.chunk c.in-Store.to c.in-Store.value c.deref-in-Store.result.now c.deref-in-Store-2.result.now c.deref-in-Store.ensures c.deref-in-Store-2.ensures) c.args.place.base c.requires.room

pub store-requires-clause-ty : goal.store-requires-clause-ty
store-requires-clause-ty g c = λ at. type-of (scoped_names c.args.scope.now) c.args.expr.now _ _ _ c.in-Store.is (store-shape (scoped_names c.args.scope.now) c.args.expr.now.at c.in-Store.chunk c.in-Store.to c.in-Store.value c.deref-in-Store.result.now c.deref-in-Store-2.result.now c.deref-in-Store.ensures c.deref-in-Store-2.ensures) c.requires.typed

pub returns-in-Store-clause-code : goal.returns-in-Store-clause-code
returns-in-Store-clause-code g c =
    on_ok_weaker c.store.result
    (λ h. code-of (scoped_names c.args.scope.now) c.args.scope.now c.args.place c.args.expr.now _ _ _ c.args.code.now c.store.new.code c.in-Store.is (store-shape (scoped_names c.args.scope.now) c.args.expr.now.at c.in-Store.chunk c.in-Store.to c.in-Store.value c.deref-in-Store.result.now c.deref-in-Store-2.result.now c.deref-in-Store.ensures c.deref-in-Store-2.ensures) (h c.args.expr.now.at))
    c.store.ensures.code

pub alloc-requires-clause-typed : goal.alloc-requires-clause-typed
alloc-requires-clause-typed g c =
    parts-of (scoped_names c.args.scope.now) c.args.expr.now _ _ _ c.in-Alloc.is (alloc-shape (scoped_names c.args.scope.now) c.args.expr.now.at c.in-Alloc.header_at c.in-Alloc.header c.in-Alloc.operands c.as_slice-in-Alloc.result.now c.as_slice-in-Alloc.ensures.value) c.requires.typed

pub alloc-requires-clause-room : goal.alloc-requires-clause-room
alloc-requires-clause-room g c = room-of (scoped_names c.args.scope.now) c.args.expr.now _ _ _ c.in-Alloc.is (alloc-shape (scoped_names c.args.scope.now) c.args.expr.now.at c.in-Alloc.header_at c.in-Alloc.header c.in-Alloc.operands c.as_slice-in-Alloc.result.now c.as_slice-in-Alloc.ensures.value) c.args.place.base c.requires.room

pub alloc-requires-clause-ty : goal.alloc-requires-clause-ty
alloc-requires-clause-ty g c = λ at at2. type-of (scoped_names c.args.scope.now) c.args.expr.now _ _ _ c.in-Alloc.is (alloc-shape (scoped_names c.args.scope.now) c.args.expr.now.at c.in-Alloc.header_at c.in-Alloc.header c.in-Alloc.operands c.as_slice-in-Alloc.result.now c.as_slice-in-Alloc.ensures.value) c.requires.typed

pub returns-in-Alloc-clause-code : goal.returns-in-Alloc-clause-code
returns-in-Alloc-clause-code g c =
    on_ok_weaker c.alloc.result
    (λ h. code-of (scoped_names c.args.scope.now) c.args.scope.now c.args.place c.args.expr.now _ _ _ c.args.code.now c.alloc.new.code c.in-Alloc.is (alloc-shape (scoped_names c.args.scope.now) c.args.expr.now.at c.in-Alloc.header_at c.in-Alloc.header c.in-Alloc.operands c.as_slice-in-Alloc.result.now c.as_slice-in-Alloc.ensures.value) (h c.args.expr.now.at c.in-Alloc.header_at))
    c.alloc.ensures.code

pub checkbound-requires-clause-bound_typed : goal.checkbound-requires-clause-bound_typed
checkbound-requires-clause-bound_typed g c =
    (parts-of (scoped_names c.args.scope.now) c.args.expr.now _ _ _ c.in-Checkbound.is (checkbound-shape (scoped_names c.args.scope.now) c.args.expr.now.at c.in-Checkbound.bound c.in-Checkbound.index c.deref-in-Checkbound.result.now c.deref-in-Checkbound-2.result.now c.deref-in-Checkbound.ensures c.deref-in-Checkbound-2.ensures) c.requires.typed).0

pub checkbound-requires-clause-index_typed : goal.checkbound-requires-clause-index_typed
checkbound-requires-clause-index_typed g c =
    (parts-of (scoped_names c.args.scope.now) c.args.expr.now _ _ _ c.in-Checkbound.is (checkbound-shape (scoped_names c.args.scope.now) c.args.expr.now.at c.in-Checkbound.bound c.in-Checkbound.index c.deref-in-Checkbound.result.now c.deref-in-Checkbound-2.result.now c.deref-in-Checkbound.ensures c.deref-in-Checkbound-2.ensures) c.requires.typed).1

pub checkbound-requires-clause-room : goal.checkbound-requires-clause-room
checkbound-requires-clause-room g c = room-of (scoped_names c.args.scope.now) c.args.expr.now _ _ _ c.in-Checkbound.is (checkbound-shape (scoped_names c.args.scope.now) c.args.expr.now.at c.in-Checkbound.bound c.in-Checkbound.index c.deref-in-Checkbound.result.now c.deref-in-Checkbound-2.result.now c.deref-in-Checkbound.ensures c.deref-in-Checkbound-2.ensures) c.args.place.base c.requires.room

pub checkbound-requires-clause-ty : goal.checkbound-requires-clause-ty
checkbound-requires-clause-ty g c = λ at. type-of (scoped_names c.args.scope.now) c.args.expr.now _ _ _ c.in-Checkbound.is (checkbound-shape (scoped_names c.args.scope.now) c.args.expr.now.at c.in-Checkbound.bound c.in-Checkbound.index c.deref-in-Checkbound.result.now c.deref-in-Checkbound-2.result.now c.deref-in-Checkbound.ensures c.deref-in-Checkbound-2.ensures) c.requires.typed

pub returns-in-Checkbound-clause-code : goal.returns-in-Checkbound-clause-code
returns-in-Checkbound-clause-code g c =
    on_ok_weaker c.checkbound.result
    (λ h. code-of (scoped_names c.args.scope.now) c.args.scope.now c.args.place c.args.expr.now _ _ _ c.args.code.now c.checkbound.new.code c.in-Checkbound.is (checkbound-shape (scoped_names c.args.scope.now) c.args.expr.now.at c.in-Checkbound.bound c.in-Checkbound.index c.deref-in-Checkbound.result.now c.deref-in-Checkbound-2.result.now c.deref-in-Checkbound.ensures c.deref-in-Checkbound-2.ensures) (h c.args.expr.now.at))
    c.checkbound.ensures.code

pub raise-requires-clause-typed : goal.raise-requires-clause-typed
raise-requires-clause-typed g c =
    parts-of (scoped_names c.args.scope.now) c.args.expr.now _ _ _ c.in-Raise.is (raise-shape (scoped_names c.args.scope.now) c.args.expr.now.at c.in-Raise.value c.deref-in-Raise.result.now c.deref-in-Raise.ensures) c.requires.typed

pub raise-requires-clause-room : goal.raise-requires-clause-room
raise-requires-clause-room g c = room-of (scoped_names c.args.scope.now) c.args.expr.now _ _ _ c.in-Raise.is (raise-shape (scoped_names c.args.scope.now) c.args.expr.now.at c.in-Raise.value c.deref-in-Raise.result.now c.deref-in-Raise.ensures) c.args.place.base c.requires.room

pub raise-requires-clause-ty : goal.raise-requires-clause-ty
raise-requires-clause-ty g c = λ at. type-of (scoped_names c.args.scope.now) c.args.expr.now _ _ _ c.in-Raise.is (raise-shape (scoped_names c.args.scope.now) c.args.expr.now.at c.in-Raise.value c.deref-in-Raise.result.now c.deref-in-Raise.ensures) c.requires.typed

pub returns-in-Raise-clause-code : goal.returns-in-Raise-clause-code
returns-in-Raise-clause-code g c =
    on_ok_weaker c.raise.result
    (λ h. code-of (scoped_names c.args.scope.now) c.args.scope.now c.args.place c.args.expr.now _ _ _ c.args.code.now c.raise.new.code c.in-Raise.is (raise-shape (scoped_names c.args.scope.now) c.args.expr.now.at c.in-Raise.value c.deref-in-Raise.result.now c.deref-in-Raise.ensures) (h c.args.expr.now.at))
    c.raise.ensures.code

pub seq-requires-clause-typed : goal.seq-requires-clause-typed
seq-requires-clause-typed g c =
    parts-of (scoped_names c.args.scope.now) c.args.expr.now _ _ _ c.in-Seq.is (seq-shape (scoped_names c.args.scope.now) c.args.expr.now.at c.in-Seq.elements c.as_slice-in-Seq.result.now c.as_slice-in-Seq.ensures.value) c.requires.typed

pub seq-requires-clause-room : goal.seq-requires-clause-room
seq-requires-clause-room g c = room-of (scoped_names c.args.scope.now) c.args.expr.now _ _ _ c.in-Seq.is (seq-shape (scoped_names c.args.scope.now) c.args.expr.now.at c.in-Seq.elements c.as_slice-in-Seq.result.now c.as_slice-in-Seq.ensures.value) c.args.place.base c.requires.room

pub seq-requires-clause-ty : goal.seq-requires-clause-ty
seq-requires-clause-ty g c = λ at. type-of (scoped_names c.args.scope.now) c.args.expr.now _ _ _ c.in-Seq.is (seq-shape (scoped_names c.args.scope.now) c.args.expr.now.at c.in-Seq.elements c.as_slice-in-Seq.result.now c.as_slice-in-Seq.ensures.value) c.requires.typed

pub returns-in-Seq-clause-code : goal.returns-in-Seq-clause-code
returns-in-Seq-clause-code g c =
    on_ok_weaker c.seq.result
    (λ h. code-of (scoped_names c.args.scope.now) c.args.scope.now c.args.place c.args.expr.now _ _ _ c.args.code.now c.seq.new.code c.in-Seq.is (seq-shape (scoped_names c.args.scope.now) c.args.expr.now.at c.in-Seq.elements c.as_slice-in-Seq.result.now c.as_slice-in-Seq.ensures.value) (h c.args.expr.now.at))
    c.seq.ensures.code

pub if_else-requires-clause-condition_typed : goal.if_else-requires-clause-condition_typed
if_else-requires-clause-condition_typed g c =
    (parts-of (scoped_names c.args.scope.now) c.args.expr.now _ _ _ c.in-If.is (if-shape (scoped_names c.args.scope.now) c.args.expr.now.at c.in-If.condition c.in-If.on_true c.in-If.on_false c.deref-in-If.result.now c.deref-in-If-2.result.now c.deref-in-If-3.result.now c.deref-in-If.ensures c.deref-in-If-2.ensures c.deref-in-If-3.ensures) c.requires.typed).0

pub if_else-requires-clause-true_typed : goal.if_else-requires-clause-true_typed
if_else-requires-clause-true_typed g c =
    (parts-of (scoped_names c.args.scope.now) c.args.expr.now _ _ _ c.in-If.is (if-shape (scoped_names c.args.scope.now) c.args.expr.now.at c.in-If.condition c.in-If.on_true c.in-If.on_false c.deref-in-If.result.now c.deref-in-If-2.result.now c.deref-in-If-3.result.now c.deref-in-If.ensures c.deref-in-If-2.ensures c.deref-in-If-3.ensures) c.requires.typed).1

pub if_else-requires-clause-false_typed : goal.if_else-requires-clause-false_typed
if_else-requires-clause-false_typed g c =
    (parts-of (scoped_names c.args.scope.now) c.args.expr.now _ _ _ c.in-If.is (if-shape (scoped_names c.args.scope.now) c.args.expr.now.at c.in-If.condition c.in-If.on_true c.in-If.on_false c.deref-in-If.result.now c.deref-in-If-2.result.now c.deref-in-If-3.result.now c.deref-in-If.ensures c.deref-in-If-2.ensures c.deref-in-If-3.ensures) c.requires.typed).2

pub if_else-requires-clause-room : goal.if_else-requires-clause-room
if_else-requires-clause-room g c = room-of (scoped_names c.args.scope.now) c.args.expr.now _ _ _ c.in-If.is (if-shape (scoped_names c.args.scope.now) c.args.expr.now.at c.in-If.condition c.in-If.on_true c.in-If.on_false c.deref-in-If.result.now c.deref-in-If-2.result.now c.deref-in-If-3.result.now c.deref-in-If.ensures c.deref-in-If-2.ensures c.deref-in-If-3.ensures) c.args.place.base c.requires.room

pub if_else-requires-clause-ty : goal.if_else-requires-clause-ty
if_else-requires-clause-ty g c = λ at. type-of (scoped_names c.args.scope.now) c.args.expr.now _ _ _ c.in-If.is (if-shape (scoped_names c.args.scope.now) c.args.expr.now.at c.in-If.condition c.in-If.on_true c.in-If.on_false c.deref-in-If.result.now c.deref-in-If-2.result.now c.deref-in-If-3.result.now c.deref-in-If.ensures c.deref-in-If-2.ensures c.deref-in-If-3.ensures) c.requires.typed

pub returns-in-If-clause-code : goal.returns-in-If-clause-code
returns-in-If-clause-code g c =
    on_ok_weaker c.if_else.result
    (λ h. code-of (scoped_names c.args.scope.now) c.args.scope.now c.args.place c.args.expr.now _ _ _ c.args.code.now c.if_else.new.code c.in-If.is (if-shape (scoped_names c.args.scope.now) c.args.expr.now.at c.in-If.condition c.in-If.on_true c.in-If.on_false c.deref-in-If.result.now c.deref-in-If-2.result.now c.deref-in-If-3.result.now c.deref-in-If.ensures c.deref-in-If-2.ensures c.deref-in-If-3.ensures) (h c.args.expr.now.at))
    c.if_else.ensures.code

pub switch-requires-clause-selector_typed : goal.switch-requires-clause-selector_typed
switch-requires-clause-selector_typed g c =
    (parts-of (scoped_names c.args.scope.now) c.args.expr.now _ _ _ c.in-Switch.is (switch-shape (scoped_names c.args.scope.now) c.args.expr.now.at c.in-Switch.size_at c.in-Switch.size c.in-Switch.selector c.in-Switch.cases c.deref-in-Switch.result.now c.as_slice-in-Switch.result.now c.deref-in-Switch.ensures c.as_slice-in-Switch.ensures.value) c.requires.typed).0

pub switch-requires-clause-typed : goal.switch-requires-clause-typed
switch-requires-clause-typed g c =
    (parts-of (scoped_names c.args.scope.now) c.args.expr.now _ _ _ c.in-Switch.is (switch-shape (scoped_names c.args.scope.now) c.args.expr.now.at c.in-Switch.size_at c.in-Switch.size c.in-Switch.selector c.in-Switch.cases c.deref-in-Switch.result.now c.as_slice-in-Switch.result.now c.deref-in-Switch.ensures c.as_slice-in-Switch.ensures.value) c.requires.typed).1

pub switch-requires-clause-room : goal.switch-requires-clause-room
switch-requires-clause-room g c = room-of (scoped_names c.args.scope.now) c.args.expr.now _ _ _ c.in-Switch.is (switch-shape (scoped_names c.args.scope.now) c.args.expr.now.at c.in-Switch.size_at c.in-Switch.size c.in-Switch.selector c.in-Switch.cases c.deref-in-Switch.result.now c.as_slice-in-Switch.result.now c.deref-in-Switch.ensures c.as_slice-in-Switch.ensures.value) c.args.place.base c.requires.room

pub switch-requires-clause-ty : goal.switch-requires-clause-ty
switch-requires-clause-ty g c = λ at at2. type-of (scoped_names c.args.scope.now) c.args.expr.now _ _ _ c.in-Switch.is (switch-shape (scoped_names c.args.scope.now) c.args.expr.now.at c.in-Switch.size_at c.in-Switch.size c.in-Switch.selector c.in-Switch.cases c.deref-in-Switch.result.now c.as_slice-in-Switch.result.now c.deref-in-Switch.ensures c.as_slice-in-Switch.ensures.value) c.requires.typed

pub returns-in-Switch-clause-code : goal.returns-in-Switch-clause-code
returns-in-Switch-clause-code g c =
    on_ok_weaker c.switch.result
    (λ h. code-of (scoped_names c.args.scope.now) c.args.scope.now c.args.place c.args.expr.now _ _ _ c.args.code.now c.switch.new.code c.in-Switch.is (switch-shape (scoped_names c.args.scope.now) c.args.expr.now.at c.in-Switch.size_at c.in-Switch.size c.in-Switch.selector c.in-Switch.cases c.deref-in-Switch.result.now c.as_slice-in-Switch.result.now c.deref-in-Switch.ensures c.as_slice-in-Switch.ensures.value) (h c.args.expr.now.at c.in-Switch.size_at))
    c.switch.ensures.code

pub catch-requires-clause-body_typed : goal.catch-requires-clause-body_typed
catch-requires-clause-body_typed g c =
    (parts-of (scoped_names c.args.scope.now) c.args.expr.now _ _ _ c.in-Catch.is (catch-shape (scoped_names c.args.scope.now) c.args.expr.now.at c.in-Catch.body c.in-Catch.handlers c.deref-in-Catch.result.now c.as_slice-in-Catch.result.now c.deref-in-Catch.ensures c.as_slice-in-Catch.ensures.value) c.requires.typed).0

pub catch-requires-clause-typed : goal.catch-requires-clause-typed
catch-requires-clause-typed g c =
    (parts-of (scoped_names c.args.scope.now) c.args.expr.now _ _ _ c.in-Catch.is (catch-shape (scoped_names c.args.scope.now) c.args.expr.now.at c.in-Catch.body c.in-Catch.handlers c.deref-in-Catch.result.now c.as_slice-in-Catch.result.now c.deref-in-Catch.ensures c.as_slice-in-Catch.ensures.value) c.requires.typed).1

pub catch-requires-clause-room : goal.catch-requires-clause-room
catch-requires-clause-room g c = room-of (scoped_names c.args.scope.now) c.args.expr.now _ _ _ c.in-Catch.is (catch-shape (scoped_names c.args.scope.now) c.args.expr.now.at c.in-Catch.body c.in-Catch.handlers c.deref-in-Catch.result.now c.as_slice-in-Catch.result.now c.deref-in-Catch.ensures c.as_slice-in-Catch.ensures.value) c.args.place.base c.requires.room

pub catch-requires-clause-ty : goal.catch-requires-clause-ty
catch-requires-clause-ty g c = λ at. type-of (scoped_names c.args.scope.now) c.args.expr.now _ _ _ c.in-Catch.is (catch-shape (scoped_names c.args.scope.now) c.args.expr.now.at c.in-Catch.body c.in-Catch.handlers c.deref-in-Catch.result.now c.as_slice-in-Catch.result.now c.deref-in-Catch.ensures c.as_slice-in-Catch.ensures.value) c.requires.typed

pub returns-in-Catch-clause-code : goal.returns-in-Catch-clause-code
returns-in-Catch-clause-code g c =
    on_ok_weaker c.catch.result
    (λ h. code-of (scoped_names c.args.scope.now) c.args.scope.now c.args.place c.args.expr.now _ _ _ c.args.code.now c.catch.new.code c.in-Catch.is (catch-shape (scoped_names c.args.scope.now) c.args.expr.now.at c.in-Catch.body c.in-Catch.handlers c.deref-in-Catch.result.now c.as_slice-in-Catch.result.now c.deref-in-Catch.ensures c.as_slice-in-Catch.ensures.value) (h c.args.expr.now.at))
    c.catch.ensures.code

pub exit-requires-clause-typed : goal.exit-requires-clause-typed
exit-requires-clause-typed g c =
    parts-of (scoped_names c.args.scope.now) c.args.expr.now _ _ _ c.in-Exit.is (exit-shape (scoped_names c.args.scope.now) c.args.expr.now.at c.in-Exit.label_at c.in-Exit.label c.in-Exit.arguments c.as_slice-in-Exit.result.now c.as_slice-in-Exit.ensures.value) c.requires.typed

pub exit-requires-clause-room : goal.exit-requires-clause-room
exit-requires-clause-room g c = room-of (scoped_names c.args.scope.now) c.args.expr.now _ _ _ c.in-Exit.is (exit-shape (scoped_names c.args.scope.now) c.args.expr.now.at c.in-Exit.label_at c.in-Exit.label c.in-Exit.arguments c.as_slice-in-Exit.result.now c.as_slice-in-Exit.ensures.value) c.args.place.base c.requires.room

pub exit-requires-clause-ty : goal.exit-requires-clause-ty
exit-requires-clause-ty g c = λ at at2. type-of (scoped_names c.args.scope.now) c.args.expr.now _ _ _ c.in-Exit.is (exit-shape (scoped_names c.args.scope.now) c.args.expr.now.at c.in-Exit.label_at c.in-Exit.label c.in-Exit.arguments c.as_slice-in-Exit.result.now c.as_slice-in-Exit.ensures.value) c.requires.typed

pub returns-in-Exit-clause-code : goal.returns-in-Exit-clause-code
returns-in-Exit-clause-code g c =
    on_ok_weaker c.exit.result
    (λ h. code-of (scoped_names c.args.scope.now) c.args.scope.now c.args.place c.args.expr.now _ _ _ c.args.code.now c.exit.new.code c.in-Exit.is (exit-shape (scoped_names c.args.scope.now) c.args.expr.now.at c.in-Exit.label_at c.in-Exit.label c.in-Exit.arguments c.as_slice-in-Exit.result.now c.as_slice-in-Exit.ensures.value) (h c.args.expr.now.at c.in-Exit.label_at))
    c.exit.ensures.code

pub try_with-requires-clause-body_typed : goal.try_with-requires-clause-body_typed
try_with-requires-clause-body_typed g c =
    (parts-of (scoped_names c.args.scope.now) c.args.expr.now _ _ _ c.in-Try.is (try-shape (scoped_names c.args.scope.now) c.args.expr.now.at c.in-Try.body c.in-Try.name_at c.in-Try.name c.in-Try.handler c.deref-in-Try.result.now c.deref-in-Try-2.result.now c.deref-in-Try.ensures c.deref-in-Try-2.ensures) c.requires.typed).0

pub try_with-requires-clause-typed : goal.try_with-requires-clause-typed
try_with-requires-clause-typed g c =
    (parts-of (scoped_names c.args.scope.now) c.args.expr.now _ _ _ c.in-Try.is (try-shape (scoped_names c.args.scope.now) c.args.expr.now.at c.in-Try.body c.in-Try.name_at c.in-Try.name c.in-Try.handler c.deref-in-Try.result.now c.deref-in-Try-2.result.now c.deref-in-Try.ensures c.deref-in-Try-2.ensures) c.requires.typed).1

pub try_with-requires-clause-room : goal.try_with-requires-clause-room
try_with-requires-clause-room g c = room-of (scoped_names c.args.scope.now) c.args.expr.now _ _ _ c.in-Try.is (try-shape (scoped_names c.args.scope.now) c.args.expr.now.at c.in-Try.body c.in-Try.name_at c.in-Try.name c.in-Try.handler c.deref-in-Try.result.now c.deref-in-Try-2.result.now c.deref-in-Try.ensures c.deref-in-Try-2.ensures) c.args.place.base c.requires.room

pub try_with-requires-clause-ty : goal.try_with-requires-clause-ty
try_with-requires-clause-ty g c = λ at at2. type-of (scoped_names c.args.scope.now) c.args.expr.now _ _ _ c.in-Try.is (try-shape (scoped_names c.args.scope.now) c.args.expr.now.at c.in-Try.body c.in-Try.name_at c.in-Try.name c.in-Try.handler c.deref-in-Try.result.now c.deref-in-Try-2.result.now c.deref-in-Try.ensures c.deref-in-Try-2.ensures) c.requires.typed

pub returns-in-Try-clause-code : goal.returns-in-Try-clause-code
returns-in-Try-clause-code g c =
    on_ok_weaker c.try_with.result
    (λ h. code-of (scoped_names c.args.scope.now) c.args.scope.now c.args.place c.args.expr.now _ _ _ c.args.code.now c.try_with.new.code c.in-Try.is (try-shape (scoped_names c.args.scope.now) c.args.expr.now.at c.in-Try.body c.in-Try.name_at c.in-Try.name c.in-Try.handler c.deref-in-Try.result.now c.deref-in-Try-2.result.now c.deref-in-Try.ensures c.deref-in-Try-2.ensures) (h c.args.expr.now.at c.in-Try.name_at))
    c.try_with.ensures.code
