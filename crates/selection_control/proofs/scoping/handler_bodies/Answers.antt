use Rattle.std.proofs.Common.{◌≡◌, ◌+◌, ◌-◌, suc, refl, sym, ◌∙◌, arith}
use Rattle.cmm_tree.specs.Rows.{handlers_of}
use Rattle.selection_rules.specs.Select.{width_handlers, width_labels}
use Rattle.selection_control.proofs.LastParts.{handlers-typed, handlers-typed-in, handlers-behind, labels-behind, handler-code}
use Rattle.selection_control.proofs.Rooms.{handlers-room}
use Rattle.selection_scope.specs.Scoping.{scoped_names}
use Rattle.selection_control.proofs.scoping.handler_bodies.Goals as goal

pub overflow_sub-params : goal.overflow_sub-params
overflow_sub-params g c =
    let counted = labels-behind c.args.first c.loop-last.label c.loop-last.rest.now c.in-Some.others.now c.in-Some.last.now c.in-Some.ensures.cases.0 c.loop-last.invariant.label in
    omega (arith, counted, c.len.ensures)

pub overflow_sub-label : goal.overflow_sub-label
overflow_sub-label g c =
    let counted = labels-behind c.args.first c.loop-last.label c.loop-last.rest.now c.in-Some.others.now c.in-Some.last.now c.in-Some.ensures.cases.0 c.loop-last.invariant.label in
    omega (arith, counted, c.len.ensures)

pub overflow_sub-base : goal.overflow_sub-base
overflow_sub-base g c =
    let ended = handlers-behind c.args.place.base c.loop-last.base c.loop-last.rest.now c.in-Some.others.now c.in-Some.last.now c.in-Some.ensures.cases.0 c.loop-last.invariant.base in
    omega (arith, ended, c.width_of-base.ensures)

pub handler_body-requires-clause-typed : goal.handler_body-requires-clause-typed
handler_body-requires-clause-typed g c =
    (handlers-typed (scoped_names c.loop-last.scope) c.loop-last.rest.now c.in-Some.others.now c.in-Some.last.now c.in-Some.ensures.cases.0 c.loop-last.invariant.typed).1

pub loop-last-preserved : goal.loop-last-preserved
loop-last-preserved g c =
    let s = c.args.scope.now in
    let t = c.loop-last.scope in
    let others = c.in-Some.others.now in
    let last = c.in-Some.last.now in
    let rest = c.loop-last.rest.now in
    let is = c.in-Some.ensures.cases.0 in
    let typed = handlers-typed (scoped_names t) rest others last is c.loop-last.invariant.typed in
    let ended = handlers-behind c.args.place.base c.loop-last.base rest others last is c.loop-last.invariant.base in
    let counted = labels-behind c.args.first c.loop-last.label rest others last is c.loop-last.invariant.label in
    let p = c.loop-last.label - c.len.result in
    let l = p - 1 in
    let b = c.loop-last.base - c.width_of-base.result in
    let label : l ≡ c.args.first + width_labels (handlers_of others) = omega (arith, counted, c.len.ensures) in
    let params : p ≡ suc l = omega (arith, counted, c.len.ensures) in
    let base : b ≡ c.args.place.base + width_handlers (handlers_of others) = omega (arith, ended, c.width_of-base.ensures) in
    record {
      code =
          handler-code s t c.args.place (record c.args.place { base = b }) c.args.end c.args.first l p b rest others last c.loop-last.code c.handler_body.new.code c.bare.new.self
          is c.loop-last.invariant.scope label params base refl c.in_ok-handler_body.ensures.code c.in_ok-bare.ensures
          ∙ c.loop-last.invariant.code;
      scope = c.in_ok-handler_body.ensures.scope ∙ c.loop-last.invariant.scope;
      typed = handlers-typed-in c.handler_body.new.scope t others (sym c.in_ok-handler_body.ensures.scope) typed.0;
      label = label;
      base = base;
      room = omega (arith, handlers-room c.args.place.base rest others last is c.loop-last.invariant.room);
      few = omega (arith, counted, label, c.loop-last.invariant.few);
    }

pub width_of-base-requires : goal.width_of-base-requires
width_of-base-requires g c =
    omega (arith, handlers-room c.args.place.base c.loop-last.rest.now c.in-Some.others.now c.in-Some.last.now c.in-Some.ensures.cases.0 c.loop-last.invariant.room)

pub overflow_cast-params : goal.overflow_cast-params
overflow_cast-params g c =
    let counted = labels-behind c.args.first c.loop-last.label c.loop-last.rest.now c.in-Some.others.now c.in-Some.last.now c.in-Some.ensures.cases.0 c.loop-last.invariant.label in
    omega (arith, counted, c.len.ensures, c.loop-last.invariant.few)

pub handler_body-requires-clause-begins : goal.handler_body-requires-clause-begins
handler_body-requires-clause-begins g c =
    let others = c.in-Some.others.now in
    let last = c.in-Some.last.now in
    let rest = c.loop-last.rest.now in
    let is = c.in-Some.ensures.cases.0 in
    let ended = handlers-behind c.args.place.base c.loop-last.base rest others last is c.loop-last.invariant.base in
    omega (arith, ended, c.width_of-base.ensures, c.requires.begins)

pub handler_body-requires-clause-room : goal.handler_body-requires-clause-room
handler_body-requires-clause-room g c =
    let others = c.in-Some.others.now in
    let last = c.in-Some.last.now in
    let rest = c.loop-last.rest.now in
    let is = c.in-Some.ensures.cases.0 in
    let ended = handlers-behind c.args.place.base c.loop-last.base rest others last is c.loop-last.invariant.base in
    omega (arith, ended, c.width_of-base.ensures, handlers-room c.args.place.base rest others last is c.loop-last.invariant.room)

pub handler_body-requires-clause-params : goal.handler_body-requires-clause-params
handler_body-requires-clause-params g c =
    let others = c.in-Some.others.now in
    let last = c.in-Some.last.now in
    let rest = c.loop-last.rest.now in
    let is = c.in-Some.ensures.cases.0 in
    let counted = labels-behind c.args.first c.loop-last.label rest others last is c.loop-last.invariant.label in
    omega (arith, counted, c.len.ensures, c.loop-last.invariant.few)
