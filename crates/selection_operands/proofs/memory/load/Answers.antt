use Rattle.std.proofs.Common.{◌+◌, refl, ap, sym, ◌∙◌, subst, arith}
use Rattle.std.proofs.lemmas.Result.{on_ok_weaker}
use Rattle.selection_operands.proofs.Accesses.{load-is}
use Rattle.cmm_tree.specs.View.{expr_view}
use Rattle.selection_operands.proofs.Addresses.{base_room}
use Rattle.selection_operands.specs.Below.{selected_code}
use Rattle.selection_scope.specs.Room.{HasExpressionRoom}
use Rattle.selection_scope.specs.Scoping.{scoped_names}
use Rattle.selection_scope.specs.declared.place.Place.{Place}
use Rattle.selection_operands.proofs.memory.load.Goals as goal

pub returns-clause-code : goal.returns-clause-code
returns-clause-code g c =
    on_ok_weaker c.one.result
    (λ h. λ at.
    load-is c.args.scope.now c.args.node.place c.args.node.ty c.args.chunk c.args.address.now c.address_of-at.result.base.now c.address_of-at.result.offset (c.args.node.place.base + 2) c.fresh-register.result c.dest.result
    c.args.code.now c.load.new.self c.one.new.code at
    refl c.address_of-at.ensures.base c.address_of-at.ensures.offset (c.address_of-at.ensures.typed (scoped_names c.args.scope.now) c.requires.typed) (c.requires.ty at)
    c.fresh-register.ensures c.dest.ensures c.in_ok-load.ensures
    (h ∙ ap (λ p. selected_code c.args.scope.now p c.address_of-at.result.base.now c.load.new.self) c.operand_at.ensures))
    c.one.ensures.code

pub one-requires-clause-room : goal.one-requires-clause-room
one-requires-clause-room g c =
    let first = c.args.node.place.base + 2 in
    let e = c.address_of-at.result.base.now in
    let placed = ap (λ (p : Place). p.base) c.operand_at.ensures in
    let whole : HasExpressionRoom first (expr_view c.args.address.now) = omega (arith, c.requires.room) in
    let based : HasExpressionRoom first (expr_view e) = subst (HasExpressionRoom first) (sym c.address_of-at.ensures.base) (base_room first (expr_view c.args.address.now) whole) in
    omega (arith, based, placed)
