use Rattle.std.proofs.Common.{◌≡◌, not, true, length, refl, ap, ◌∙◌, arith}
use Rattle.std.proofs.lemmas.Result.{on_ok_weaker}
use Rattle.cmm_tree.specs.View.{expr_view, function_view}
use Rattle.selection_rules.specs.Select.{return_code as returned_by, select}
use Rattle.selection.specs.Whole.{body_code}
use Rattle.selection.proofs.Whole.{body-is, count-params, scope-is, typed-body}
use Rattle.selection.specs.declared.function.Numbers.{Numbers}
use Rattle.selection_scope.specs.Room.{most_tries}
use Rattle.selection_scope.specs.Scoping.{LexicalScope}
use Rattle.selection.proofs.function.put_body.Goals as goal

pub expr_at-requires-clause-typed : goal.expr_at-requires-clause-typed
expr_at-requires-clause-typed c =
    let f = c.args.function.now in
    let moved = c.args.numbers.moved in
    let scope = c.bind_params.new.self in
    typed-body f moved scope (ap (λ (v : LexicalScope). v.names) (scope-is f moved c.as_slice.result.now c.new-scope.result scope c.as_slice.ensures c.new-scope.ensures c.in_ok-bind_params.ensures)) c.requires.typed

pub returns : goal.returns
returns c =
    let f = c.args.function.now in
    let numbers = c.args.numbers in
    let scope = c.bind_params.new.self in
    let value = c.fresh-value.result in
    let returned = c.returns.new.self in
    let made = c.expr_at.new.code in
    on_ok_weaker {Q = made ≡ body_code (function_view f)} c.expr_at.result
    (λ h.
    body-is f numbers value scope returned made c.requires.typed c.requires.numbers c.fresh-value.ensures
    (scope-is f numbers.moved c.as_slice.result.now c.new-scope.result scope c.as_slice.ensures c.new-scope.ensures c.in_ok-bind_params.ensures)
    (c.in_ok-returns.ensures ∙ ap (returned_by value numbers.given) c.result_of.ensures)
    (h ∙ ap (λ z. select scope.names scope.labels (not z) true value numbers.base (expr_view f.body) returned) c.is_no_value.ensures))
    c.expr_at.ensures.code

pub bind_params-requires : goal.bind_params-requires
bind_params-requires c =
    let params = c.as_slice.result.now in
    let moved = ap (λ (n : Numbers). n.moved) c.requires.numbers in
    let count = count-params c.args.function.now params (length params) refl c.as_slice.ensures in
    omega (arith, moved, count, c.requires.room)

pub expr_at-requires-clause-tries : goal.expr_at-requires-clause-tries
expr_at-requires-clause-tries c =
    let f = c.args.function.now in
    let none = ap (λ (v : LexicalScope). most_tries v.labels)
    (scope-is f c.args.numbers.moved c.as_slice.result.now c.new-scope.result c.bind_params.new.self c.as_slice.ensures c.new-scope.ensures c.in_ok-bind_params.ensures) in
    omega (arith, none)

pub expr_at-requires-clause-room : goal.expr_at-requires-clause-room
expr_at-requires-clause-room c =
    let base = ap (λ (n : Numbers). n.base) c.requires.numbers in
    omega (arith, base, c.requires.room)
