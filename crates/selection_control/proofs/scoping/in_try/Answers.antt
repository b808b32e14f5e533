use Rattle.std.proofs.Common.{ap, ◌∙◌, arith}
use Rattle.std.proofs.lemmas.Result.{on_ok_weaker}
use Rattle.selection_scope.proofs.Scopes.{higher-deeper}
use Rattle.selection_control.proofs.Rooms.{tries-deeper}
use Rattle.selection_scope.specs.Room.{most_tries}
use Rattle.selection_scope.specs.Scoping.{LexicalScope, labels_outside_try}
use Rattle.selection_control.proofs.scoping.in_try.Goals as goal

pub returns-clause-scope : goal.returns-clause-scope
returns-clause-scope g c =
    let s = c.args.scope.now in
    let entered = c.in_ok-one.ensures.scope ∙ c.in_ok-enter_try.ensures in
    on_ok_weaker c.leave_try.result
    (λ left. left ∙ ap (λ (v : LexicalScope). record v { labels = labels_outside_try v.labels }) entered ∙ ap (λ l. record s { labels = l }) (higher-deeper s.labels))
    c.leave_try.ensures

pub one-requires-clause-tries : goal.one-requires-clause-tries
one-requires-clause-tries g c =
    let put = ap (λ (v : LexicalScope). most_tries v.labels) c.in_ok-enter_try.ensures in
    let deep = tries-deeper c.args.scope.now.labels in
    omega (arith, put, deep, c.requires.tries)
