use Rattle.std.proofs.Common.{◌≡◌, ◌+◌, ◌-◌, length, refl, sym, ◌∙◌, arith}
use Rattle.cmm_tree.specs.Rows.{cases_of}
use Rattle.selection_rules.specs.Select.{width_cases}
use Rattle.selection_control.proofs.LastParts.{cases-typed, cases-typed-in, cases-behind, count-behind, case-code}
use Rattle.selection_control.proofs.Rooms.{cases-room}
use Rattle.selection_scope.specs.Scoping.{scoped_names}
use Rattle.selection_control.proofs.choices.case_bodies.Goals as goal

pub overflow_sub-base : goal.overflow_sub-base
overflow_sub-base g c =
    let ended = cases-behind c.args.place.base c.loop-last.base c.loop-last.rest.now c.in-Some.others.now c.in-Some.last.now c.in-Some.ensures.cases.0 c.loop-last.invariant.base in
    omega (arith, ended, c.width_of-base.ensures)

pub one-requires-clause-typed : goal.one-requires-clause-typed
one-requires-clause-typed g c =
    (cases-typed (scoped_names c.loop-last.scope) c.loop-last.rest.now c.in-Some.others.now c.in-Some.last.now c.in-Some.ensures.cases.0 c.loop-last.invariant.typed).1

pub loop-last-preserved : goal.loop-last-preserved
loop-last-preserved g c =
    let s = c.args.scope.now in
    let t = c.loop-last.scope in
    let others = c.in-Some.others.now in
    let last = c.in-Some.last.now in
    let rest = c.loop-last.rest.now in
    let is = c.in-Some.ensures.cases.0 in
    let choices = c.args.choices in
    let typed = cases-typed (scoped_names t) rest others last is c.loop-last.invariant.typed in
    let ended = cases-behind c.args.place.base c.loop-last.base rest others last is c.loop-last.invariant.base in
    let counted = count-behind choices.first c.loop-last.label rest others last is c.loop-last.invariant.label in
    let l = c.loop-last.label - 1 in
    let b = c.loop-last.base - c.width_of-base.result in
    let label : l ≡ choices.first + length others = omega (arith, counted) in
    let base : b ≡ c.args.place.base + width_cases (cases_of others) = omega (arith, ended, c.width_of-base.ensures) in
    record {
      code =
          case-code s t c.args.place (record c.args.place { base = b }) choices.all.now c.in_ok-indexes.indexes choices.end choices.first l b rest others last c.loop-last.code c.one.new.code c.bare.new.self
          is c.loop-last.invariant.scope label base refl c.in_ok-one.ensures.code c.in_ok-indexes.ensures c.in_ok-bare.ensures
          ∙ c.loop-last.invariant.code;
      scope = c.in_ok-one.ensures.scope ∙ c.loop-last.invariant.scope;
      typed = cases-typed-in c.one.new.scope t others (sym c.in_ok-one.ensures.scope) typed.0;
      label = label;
      base = base;
      room = omega (arith, cases-room c.args.place.base rest others last is c.loop-last.invariant.room);
    }

pub one-requires-clause-room : goal.one-requires-clause-room
one-requires-clause-room g c =
    let others = c.in-Some.others.now in
    let last = c.in-Some.last.now in
    let rest = c.loop-last.rest.now in
    let is = c.in-Some.ensures.cases.0 in
    let ended = cases-behind c.args.place.base c.loop-last.base rest others last is c.loop-last.invariant.base in
    omega (arith, ended, c.width_of-base.ensures, cases-room c.args.place.base rest others last is c.loop-last.invariant.room)

pub width_of-base-requires : goal.width_of-base-requires
width_of-base-requires g c =
    omega (arith, cases-room c.args.place.base c.loop-last.rest.now c.in-Some.others.now c.in-Some.last.now c.in-Some.ensures.cases.0 c.loop-last.invariant.room)

pub one-requires-clause-begins : goal.one-requires-clause-begins
one-requires-clause-begins g c =
    let ended = cases-behind c.args.place.base c.loop-last.base c.loop-last.rest.now c.in-Some.others.now c.in-Some.last.now c.in-Some.ensures.cases.0 c.loop-last.invariant.base in
    omega (arith, ended, c.width_of-base.ensures, c.requires.begins)
