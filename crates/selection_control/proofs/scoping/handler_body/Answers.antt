use Rattle.std.proofs.Common.{ap, sym, ◌∙◌}
use Rattle.cmm_tree.specs.View.{params_view}
use Rattle.selection_rules.specs.Select.{params_from}
use Rattle.selection_control.proofs.Binding.{in-params}
use Rattle.selection_control.proofs.Bindings.{params-front}
use Rattle.selection_scope.specs.Scoping.{LexicalScope}
use Rattle.selection_control.proofs.scoping.handler_body.Goals as goal

pub one-requires-clause-typed : goal.one-requires-clause-typed
one-requires-clause-typed g c =
    in-params c.args.scope.now c.bind_params.new.self c.args.number c.as_slice.result.now c.args.handler.now.params.items c.args.handler.now.body c.as_slice.ensures.value c.in_ok-bind_params.ensures c.requires.typed

pub returns-clause-scope : goal.returns-clause-scope
returns-clause-scope g c =
    let s = c.args.scope.now in
    let ps = params_view c.as_slice.result.now in
    let put = c.in_ok-one.ensures.scope ∙ c.in_ok-bind_params.ensures in
    let front = params-front ps (params_from c.args.number ps) s.names in
    c.leave_names.ensures front.0 s.names (ap (λ (v : LexicalScope). v.names) put ∙ front.1) (sym c.names_len-left.ensures)
    ∙ ap (λ (v : LexicalScope). record v { names = s.names }) put
