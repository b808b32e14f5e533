use Rattle.std.proofs.Common.{◌≡◌, ◌+◌, suc, length, drop, ap, ◌∙◌, arith}
use Rattle.cmm_tree.specs.Rows.{bindings_of}
use Rattle.mach_ir.specs.declared.reg.Reg.{Reg}
use Rattle.selection_rules.specs.Select.{width_bound}
use Rattle.selection_control.proofs.Binding.{last_name, names-last, value-typed, others-typed, value-code}
use Rattle.selection_operands.specs.Below.{selected_code}
use Rattle.selection_control.proofs.Rooms.{bindings-room}
use Rattle.selection_scope.specs.Room.{most_tries}
use Rattle.selection_scope.specs.Scoping.{LexicalScope}
use Rattle.selection_scope.specs.declared.place.Place.{Place}
use Rattle.selection_control.proofs.scoping.values.Goals as goal

pub one-requires-clause-typed : goal.one-requires-clause-typed
one-requires-clause-typed g c =
    let others = c.in-Some.others.now in
    let last = c.in-Some.last.now in
    let rest = c.loop-last.rest.now in
    let outer = drop (length c.args.bindings.now) c.args.scope.now.names in
    let names = names-last c.loop-last.scope.names outer c.args.number rest others last c.in-Some.ensures.cases.0 c.loop-last.invariant.names in
    let left = (c.unbind.ensures _ _ names).1 in
    value-typed outer c.unbind.new.self.names c.args.number rest others last c.in-Some.ensures.cases.0 (ap (λ (s : LexicalScope). s.names) left) c.loop-last.invariant.typed

pub loop-last-preserved : goal.loop-last-preserved
loop-last-preserved g c =
    let others = c.in-Some.others.now in
    let last = c.in-Some.last.now in
    let rest = c.loop-last.rest.now in
    let outer = drop (length c.args.bindings.now) c.args.scope.now.names in
    let number = c.args.number in
    let is = c.in-Some.ensures.cases.0 in
    let names = names-last c.loop-last.scope.names outer number rest others last is c.loop-last.invariant.names in
    let left = (c.unbind.ensures _ _ names).1 in
    let given = (c.in-Some-unbind.ensures _ _ names).0 in
    let register : c.in-Some-unbind.register ≡ (last_name outer number others last).reg = cc in
    let at : c.in-Some-unbind.register.number ≡ number + width_bound (bindings_of others) = ap (λ (r : Reg). r.number) register in
    let behind : (c.in-Some-unbind.register.number + 1) ≡ suc (number + width_bound (bindings_of others)) = omega (arith, at) in
    let made = c.in_ok-one.ensures.code ∙ ap (λ p. selected_code c.unbind.new.self p last.value c.loop-last.code) c.operand_at.ensures in
    record {
      code =
          value-code outer c.unbind.new.self.names c.args.scope.now.labels c.unbind.new.self.labels number (c.in-Some-unbind.register.number + 1) rest others last c.in-Some-unbind.register c.loop-last.code c.one.new.code
          is (ap (λ (s : LexicalScope). s.names) left) (ap (λ (s : LexicalScope). s.labels) left ∙ c.loop-last.invariant.labels) register behind made
          ∙ c.loop-last.invariant.code;
      names = ap (λ (s : LexicalScope). s.names) (c.in_ok-one.ensures.scope ∙ left);
      labels = ap (λ (s : LexicalScope). s.labels) (c.in_ok-one.ensures.scope ∙ left) ∙ c.loop-last.invariant.labels;
      room = omega (arith, bindings-room number rest others last is c.loop-last.invariant.room);
      typed = others-typed outer rest others last is c.loop-last.invariant.typed;
    }

pub one-requires-clause-tries : goal.one-requires-clause-tries
one-requires-clause-tries g c =
    let others = c.in-Some.others.now in
    let last = c.in-Some.last.now in
    let rest = c.loop-last.rest.now in
    let outer = drop (length c.args.bindings.now) c.args.scope.now.names in
    let names = names-last c.loop-last.scope.names outer c.args.number rest others last c.in-Some.ensures.cases.0 c.loop-last.invariant.names in
    let left = (c.unbind.ensures _ _ names).1 in
    let same = ap (λ (v : LexicalScope). most_tries v.labels) left ∙ ap most_tries c.loop-last.invariant.labels in
    omega (arith, same, c.requires.tries)

pub overflow_add-base : goal.overflow_add-base
overflow_add-base g c =
    let others = c.in-Some.others.now in
    let last = c.in-Some.last.now in
    let rest = c.loop-last.rest.now in
    let is = c.in-Some.ensures.cases.0 in
    let outer = drop (length c.args.bindings.now) c.args.scope.now.names in
    let names = names-last c.loop-last.scope.names outer c.args.number rest others last is c.loop-last.invariant.names in
    let given = (c.in-Some-unbind.ensures _ _ names).0 in
    let register : c.in-Some-unbind.register ≡ (last_name outer c.args.number others last).reg = cc in
    let at : c.in-Some-unbind.register.number ≡ c.args.number + width_bound (bindings_of others) = ap (λ (r : Reg). r.number) register in
    omega (arith, at, bindings-room c.args.number rest others last is c.loop-last.invariant.room)

pub one-requires-clause-begins : goal.one-requires-clause-begins
one-requires-clause-begins g c =
    let others = c.in-Some.others.now in
    let last = c.in-Some.last.now in
    let rest = c.loop-last.rest.now in
    let is = c.in-Some.ensures.cases.0 in
    let outer = drop (length c.args.bindings.now) c.args.scope.now.names in
    let names = names-last c.loop-last.scope.names outer c.args.number rest others last is c.loop-last.invariant.names in
    let given = (c.in-Some-unbind.ensures _ _ names).0 in
    let register : c.in-Some-unbind.register ≡ (last_name outer c.args.number others last).reg = cc in
    let at : c.in-Some-unbind.register.number ≡ c.args.number + width_bound (bindings_of others) = ap (λ (r : Reg). r.number) register in
    let placed = ap (λ (p : Place). p.base) c.operand_at.ensures in
    omega (arith, at, placed, c.requires.begins)

pub one-requires-clause-room : goal.one-requires-clause-room
one-requires-clause-room g c =
    let others = c.in-Some.others.now in
    let last = c.in-Some.last.now in
    let rest = c.loop-last.rest.now in
    let is = c.in-Some.ensures.cases.0 in
    let outer = drop (length c.args.bindings.now) c.args.scope.now.names in
    let names = names-last c.loop-last.scope.names outer c.args.number rest others last is c.loop-last.invariant.names in
    let given = (c.in-Some-unbind.ensures _ _ names).0 in
    let register : c.in-Some-unbind.register ≡ (last_name outer c.args.number others last).reg = cc in
    let at : c.in-Some-unbind.register.number ≡ c.args.number + width_bound (bindings_of others) = ap (λ (r : Reg). r.number) register in
    let placed = ap (λ (p : Place). p.base) c.operand_at.ensures in
    omega (arith, at, placed, bindings-room c.args.number rest others last is c.loop-last.invariant.room)

pub unreachable-requires : goal.unreachable-requires
unreachable-requires g c =
    let others = c.in-Some.others.now in
    let last = c.in-Some.last.now in
    let rest = c.loop-last.rest.now in
    let outer = drop (length c.args.bindings.now) c.args.scope.now.names in
    let names = names-last c.loop-last.scope.names outer c.args.number rest others last c.in-Some.ensures.cases.0 c.loop-last.invariant.names in
    let given = (c.unbind.ensures _ _ names).0 in
    grind (arith, given)
