use Rattle.std.proofs.Common.{◌≡◌, ℕ, ◌+◌, List, suc, drop, length, ap, sym, ◌∙◌, subst, arith}
use Rattle.std.proofs.lemmas.Result.{on_ok_weaker}
use Rattle.cmm_tree.specs.Rows.{bindings_of}
use Rattle.cmm_tree.specs.Tree.{Let}
use Rattle.cmm_tree.specs.View.{expr_view}
use Rattle.cmm_types.specs.Lists.{AreBindingsAnnotated}
use Rattle.selection_rules.specs.Select.{NamedRegister, scopes, env_after, select_bound}
use Rattle.selection_control.proofs.Binding.{let-code, body-typed, names-again}
use Rattle.selection_operands.specs.Below.{node_code}
use Rattle.selection_scope.specs.Scoping.{LexicalScope}
use Rattle.selection_control.proofs.scoping.let_in.Goals as goal

pub one-requires-clause-typed : goal.one-requires-clause-typed
one-requires-clause-typed g c =
    body-typed c.args.scope.now c.bind_all.new.scope (c.args.node.place.base + 1) c.args.bindings.now c.args.body.now c.in_ok-bind_all.ensures c.requires.body_typed

pub values-requires-clause-names : goal.values-requires-clause-names
values-requires-clause-names g c =
    let bound = c.in_ok-bind_all.ensures in
    let same = c.in_ok-one.ensures.scope in
    let again = names-again c.args.scope.now c.bind_all.new.scope c.one.new.scope (c.args.node.place.base + 1) c.args.bindings.now bound same in
    ap (λ (v : LexicalScope). v.names) (same ∙ bound)
    ∙ ap (λ env. env_after env (c.args.node.place.base + 1) (bindings_of c.args.bindings.now)) (sym again)

pub values-requires-clause-typed : goal.values-requires-clause-typed
values-requires-clause-typed g c =
    let again = names-again c.args.scope.now c.bind_all.new.scope c.one.new.scope (c.args.node.place.base + 1) c.args.bindings.now c.in_ok-bind_all.ensures c.in_ok-one.ensures.scope in
    let P : List NamedRegister → Type 0 = λ env. AreBindingsAnnotated (scopes env) c.args.bindings.now in
    subst P (sym again) c.requires.typed

pub returns-clause-code : goal.returns-clause-code
returns-clause-code g c =
    let first : c.args.node.place.base + 1 ≡ suc c.args.node.place.base = omega arith in
    let s = c.args.scope.now in
    let bs = bindings_of c.args.bindings.now in
    let new = c.values.new.code in
    let left = c.one.new.scope in
    let step : new ≡ select_bound (drop (length c.args.bindings.now) left.names) left.labels (c.args.node.place.base + 1) bs c.one.new.code
    → (at : ℕ) → new ≡ node_code s c.args.node.place (Let at bs (expr_view c.args.body.now)) c.args.code.now =
    λ made at.
    let-code s c.bind_all.new.scope left c.args.node at (c.args.node.place.base + 1) c.behind_bindings-base.result c.args.bindings.now c.args.body.now c.part.result c.args.code.now c.one.new.code new
    c.in_ok-bind_all.ensures c.in_ok-one.ensures.scope (c.requires.ty at) first c.behind_bindings-base.ensures c.part.ensures c.in_ok-one.ensures.code made in
    on_ok_weaker c.values.result step c.values.ensures.code

pub returns-clause-scope : goal.returns-clause-scope
returns-clause-scope g c =
    let bound = c.in_ok-bind_all.ensures in
    let same = c.in_ok-one.ensures.scope in
    let again = names-again c.args.scope.now c.bind_all.new.scope c.one.new.scope (c.args.node.place.base + 1) c.args.bindings.now bound same in
    on_ok_weaker c.values.result
    (λ left. left ∙ ap (λ (v : LexicalScope). record v { names = drop (length c.args.bindings.now) c.one.new.scope.names }) (same ∙ bound) ∙ ap (λ env. record c.args.scope.now { names = env }) again)
    c.values.ensures.scope
