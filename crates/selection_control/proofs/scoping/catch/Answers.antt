use Rattle.std.proofs.Common.{◌≡◌, ◌+◌, ◌-◌, ◌++◌, suc, ap, sym, ◌∙◌, arith}
use Rattle.std.proofs.lemmas.Result.{on_ok_weaker}
use Rattle.cmm_tree.specs.Rows.{handlers_of}
use Rattle.selection_rules.specs.Select.{labels_from, in_handlers}
use Rattle.selection_control.proofs.Branches.{catch-code}
use Rattle.selection_control.proofs.Rooms.{tries-body, tries-handlers}
use Rattle.selection_scope.specs.Room.{most_tries}
use Rattle.selection_scope.specs.Scoping.{LexicalScope}
use Rattle.selection_control.proofs.scoping.catch.Goals as goal

pub returns-clause-code : goal.returns-clause-code
returns-clause-code g c =
    let s = c.args.scope.now in
    let b = c.args.node.place.base in
    let first = b + 2 in
    let handlers = c.args.handlers.now in
    let own = labels_from first (handlers_of handlers) in
    let af : first ≡ suc (suc b) = omega arith in
    let ae : first - 1 ≡ suc b = omega (arith, af) in
    let outside = c.in_ok-handler_bodies.ensures.scope ∙ c.in_ok-enter_handlers.ensures in
    let left =
    c.leave_labels.ensures (in_handlers own) s.labels (ap (λ (v : LexicalScope). v.labels) outside) (sym c.labels_len-left.ensures)
    ∙ ap (λ (v : LexicalScope). record v { labels = s.labels }) outside in
    let inside = c.in_ok-enter_body.ensures ∙ ap (λ (v : LexicalScope). record v { labels = own ++ v.labels }) left in
    on_ok_weaker c.bare-2.result
    (λ made at.
    catch-code s c.enter_handlers.new.self c.enter_body.new.self c.args.node at first (first - 1) c.behind_labels-base.result c.behind-inner.result c.args.body.now handlers c.part-2.result c.part.result c.args.code.now c.bare.new.self c.handler_bodies.new.code c.one.new.code _
    (c.requires.ty at) af ae c.behind_labels-base.ensures c.behind-inner.ensures c.in_ok-enter_handlers.ensures inside c.part.ensures c.part-2.ensures
    c.in_ok-bare.ensures c.in_ok-handler_bodies.ensures.code c.in_ok-one.ensures.code made)
    c.bare-2.ensures

pub handler_bodies-requires-clause-tries : goal.handler_bodies-requires-clause-tries
handler_bodies-requires-clause-tries g c =
    let s = c.args.scope.now in
    let first = c.args.node.place.base + 2 in
    let put = ap (λ (v : LexicalScope). most_tries v.labels) c.in_ok-enter_handlers.ensures ∙ tries-handlers first (handlers_of c.args.handlers.now) s.labels in
    omega (arith, put, c.requires.tries, c.requires.begins)

pub one-requires-clause-tries : goal.one-requires-clause-tries
one-requires-clause-tries g c =
    let s = c.args.scope.now in
    let first = c.args.node.place.base + 2 in
    let own = labels_from first (handlers_of c.args.handlers.now) in
    let outside = c.in_ok-handler_bodies.ensures.scope ∙ c.in_ok-enter_handlers.ensures in
    let left =
    c.leave_labels.ensures (in_handlers own) s.labels (ap (λ (v : LexicalScope). v.labels) outside) (sym c.labels_len-left.ensures)
    ∙ ap (λ (v : LexicalScope). record v { labels = s.labels }) outside in
    let inside = c.in_ok-enter_body.ensures ∙ ap (λ (v : LexicalScope). record v { labels = own ++ v.labels }) left in
    let put = ap (λ (v : LexicalScope). most_tries v.labels) inside ∙ tries-body first (handlers_of c.args.handlers.now) s.labels in
    omega (arith, put, c.requires.tries, c.requires.begins)
