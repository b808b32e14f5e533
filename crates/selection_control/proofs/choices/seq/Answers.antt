use Rattle.std.proofs.Common.{◌≡◌, ℕ, suc, ◌+◌, ◌<◌, sym, ap, arith}
use Rattle.std.proofs.lemmas.Result.{on_ok_weaker}
use Rattle.cmm_tree.specs.Rows.{expressions_of}
use Rattle.cmm_tree.specs.Tree.{Seq as Sequence}
use Rattle.selection_rules.specs.Select.{width_row}
use Rattle.selection_control.proofs.LastParts.{row-typed, row-typed-in, seq-code}
use Rattle.selection_control.proofs.Rooms.{row-room}
use Rattle.selection_operands.specs.Below.{node_code}
use Rattle.selection_control.specs.Rows.{select_dropped}
use Rattle.selection_scope.specs.Room.{indexes_in_row, most_numbers}
use Rattle.selection_scope.specs.Scoping.{scoped_names}
use Rattle.selection_scope.specs.declared.place.Place.{Place}
use Rattle.selection_control.proofs.choices.seq.Goals as goal

pub one-requires-clause-typed : goal.one-requires-clause-typed
one-requires-clause-typed g c =
    (row-typed (scoped_names c.args.scope.now) c.args.elements.now c.in-Some.others.now c.in-Some.last.now c.in-Some.ensures.cases.0 c.requires.typed).1

pub dropped-requires-clause-typed : goal.dropped-requires-clause-typed
dropped-requires-clause-typed g c =
    row-typed-in c.one.new.scope c.args.scope.now c.in-Some.others.now (sym c.in_ok-one-in-Some.ensures.scope)
    (row-typed (scoped_names c.args.scope.now) c.args.elements.now c.in-Some.others.now c.in-Some.last.now c.in-Some.ensures.cases.0 c.requires.typed).0

pub returns-in_ok-one-in-Some-clause-code : goal.returns-in_ok-one-in-Some-clause-code
returns-in_ok-one-in-Some-clause-code g c =
    let first : c.args.node.place.base + 1 ≡ suc c.args.node.place.base = omega arith in
    let base : c.behind_row-base.result + 1 ≡ suc (suc c.args.node.place.base + width_row (expressions_of c.in-Some.others.now)) =
    omega (arith, c.behind_row-base.ensures) in
    let s = c.args.scope.now in
    let new = c.dropped.new.code in
    let left = c.one.new.scope in
    let step : new ≡ select_dropped left.names left.labels (c.args.node.place.base + 1) (expressions_of c.in-Some.others.now) c.one.new.code
    → (at : ℕ) → new ≡ node_code s c.args.node.place (Sequence at (expressions_of c.args.elements.now)) c.args.code.now =
    λ made at.
    seq-code s left c.args.node at (c.args.node.place.base + 1) (c.behind_row-base.result + 1) c.args.elements.now c.in-Some.others.now c.in-Some.last.now c.part.result c.args.code.now c.one.new.code new
    c.in-Some.ensures.cases.0 c.in_ok-one-in-Some.ensures.scope (c.requires.ty at) first base c.part.ensures c.in_ok-one-in-Some.ensures.code made in
    on_ok_weaker c.dropped.result step c.dropped.ensures.code

pub behind_row-base-requires : goal.behind_row-base-requires
behind_row-base-requires g c =
    let b = c.args.node.place.base in
    let elements = c.args.elements.now in
    let room : b + 1 + (width_row (expressions_of elements) + indexes_in_row (expressions_of elements)) < most_numbers = omega (arith, c.requires.room) in
    let split = row-room (b + 1) elements c.in-Some.others.now c.in-Some.last.now c.in-Some.ensures.cases.0 room in
    omega (arith, split)

pub overflow_add-base : goal.overflow_add-base
overflow_add-base g c =
    let b = c.args.node.place.base in
    let elements = c.args.elements.now in
    let room : b + 1 + (width_row (expressions_of elements) + indexes_in_row (expressions_of elements)) < most_numbers = omega (arith, c.requires.room) in
    let split = row-room (b + 1) elements c.in-Some.others.now c.in-Some.last.now c.in-Some.ensures.cases.0 room in
    omega (arith, split, c.behind_row-base.ensures)

pub one-requires-clause-room : goal.one-requires-clause-room
one-requires-clause-room g c =
    let b = c.args.node.place.base in
    let elements = c.args.elements.now in
    let room : b + 1 + (width_row (expressions_of elements) + indexes_in_row (expressions_of elements)) < most_numbers = omega (arith, c.requires.room) in
    let split = row-room (b + 1) elements c.in-Some.others.now c.in-Some.last.now c.in-Some.ensures.cases.0 room in
    let placed = ap (λ (p : Place). p.base) c.part.ensures in
    omega (arith, split, placed, c.behind_row-base.ensures)

pub dropped-requires-clause-room : goal.dropped-requires-clause-room
dropped-requires-clause-room g c =
    let b = c.args.node.place.base in
    let elements = c.args.elements.now in
    let room : b + 1 + (width_row (expressions_of elements) + indexes_in_row (expressions_of elements)) < most_numbers = omega (arith, c.requires.room) in
    let split = row-room (b + 1) elements c.in-Some.others.now c.in-Some.last.now c.in-Some.ensures.cases.0 room in
    omega (arith, split)
