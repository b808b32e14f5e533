use Rattle.std.proofs.Common.{◌≡◌, ◌+◌, ◌-◌, suc, ap, sym, ◌∙◌, arith}
use Rattle.cmm_tree.specs.Rows.{expressions_of}
use Rattle.selection_rules.specs.Select.{width_row}
use Rattle.selection_control.proofs.LastParts.{row-typed, row-typed-in, row-end, dropped-code}
use Rattle.selection_control.proofs.Rooms.{row-room}
use Rattle.selection_scope.specs.Scoping.{scoped_names}
use Rattle.selection_scope.specs.declared.place.Place.{Place}
use Rattle.selection_control.proofs.choices.dropped.Goals as goal

pub overflow_sub-end : goal.overflow_sub-end
overflow_sub-end g c =
    let ended = row-end c.args.number c.loop-last.end c.loop-last.rest.now c.in-Some.others.now c.in-Some.last.now c.in-Some.ensures.cases.0 c.loop-last.invariant.end in
    omega (arith, ended, c.width_of.ensures)

pub overflow_sub-end-in-Some : goal.overflow_sub-end-in-Some
overflow_sub-end-in-Some g c =
    let ended = row-end c.args.number c.loop-last.end c.loop-last.rest.now c.in-Some.others.now c.in-Some.last.now c.in-Some.ensures.cases.0 c.loop-last.invariant.end in
    omega (arith, ended, c.width_of.ensures)

pub one-requires-clause-typed : goal.one-requires-clause-typed
one-requires-clause-typed g c =
    (row-typed (scoped_names c.loop-last.scope) c.loop-last.rest.now c.in-Some.others.now c.in-Some.last.now c.in-Some.ensures.cases.0 c.loop-last.invariant.typed).1

pub loop-last-preserved : goal.loop-last-preserved
loop-last-preserved g c =
    let s = c.args.scope.now in
    let t = c.loop-last.scope in
    let others = c.in-Some.others.now in
    let last = c.in-Some.last.now in
    let rest = c.loop-last.rest.now in
    let is = c.in-Some.ensures.cases.0 in
    let number = c.args.number in
    let typed = row-typed (scoped_names t) rest others last is c.loop-last.invariant.typed in
    let ended = row-end number c.loop-last.end rest others last is c.loop-last.invariant.end in
    let m = c.loop-last.end - c.width_of.result - 1 in
    let end : m ≡ number + width_row (expressions_of others) = omega (arith, ended, c.width_of.ensures) in
    let behind : m + 1 ≡ suc (number + width_row (expressions_of others)) = omega (arith, end) in
    record {
      code =
          dropped-code s t number m (m + 1) rest others last c.operand_at-place.result c.fresh.result c.loop-last.code c.one.new.code
          is c.loop-last.invariant.scope typed.1 end behind c.fresh.ensures c.operand_at-place.ensures c.in_ok-one.ensures.code
          ∙ c.loop-last.invariant.code;
      scope = c.in_ok-one.ensures.scope ∙ c.loop-last.invariant.scope;
      typed = row-typed-in c.one.new.scope t others (sym c.in_ok-one.ensures.scope) typed.0;
      end = end;
      room = omega (arith, row-room number rest others last is c.loop-last.invariant.room);
    }

pub one-requires-clause-room : goal.one-requires-clause-room
one-requires-clause-room g c =
    let others = c.in-Some.others.now in
    let last = c.in-Some.last.now in
    let rest = c.loop-last.rest.now in
    let is = c.in-Some.ensures.cases.0 in
    let ended = row-end c.args.number c.loop-last.end rest others last is c.loop-last.invariant.end in
    let placed = ap (λ (p : Place). p.base) c.operand_at-place.ensures in
    omega (arith, ended, placed, c.width_of.ensures, row-room c.args.number rest others last is c.loop-last.invariant.room)

pub width_of-requires : goal.width_of-requires
width_of-requires g c =
    omega (arith, row-room c.args.number c.loop-last.rest.now c.in-Some.others.now c.in-Some.last.now c.in-Some.ensures.cases.0 c.loop-last.invariant.room)

pub one-requires-clause-begins : goal.one-requires-clause-begins
one-requires-clause-begins g c =
    let ended = row-end c.args.number c.loop-last.end c.loop-last.rest.now c.in-Some.others.now c.in-Some.last.now c.in-Some.ensures.cases.0 c.loop-last.invariant.end in
    let placed = ap (λ (p : Place). p.base) c.operand_at-place.ensures in
    omega (arith, ended, placed, c.width_of.ensures, c.requires.begins)
