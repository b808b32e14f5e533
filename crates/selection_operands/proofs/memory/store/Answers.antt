use Rattle.std.proofs.Common.{◌+◌, refl, sym, subst, arith}
use Rattle.std.proofs.lemmas.Result.{on_ok_weaker}
use Rattle.cmm_tree.specs.View.{expr_view}
use Rattle.selection_operands.proofs.Addresses.{base_room}
use Rattle.selection_operands.proofs.Accesses.{store-is}
use Rattle.selection_scope.specs.Room.{HasExpressionRoom}
use Rattle.selection_scope.specs.Scoping.{scoped_names}
use Rattle.selection_operands.proofs.memory.store.Goals as goal

pub returns-clause-code : goal.returns-clause-code
returns-clause-code g c =
    on_ok_weaker c.both.result
    (λ h. λ at.
    store-is c.args.scope.now c.args.node.place c.args.chunk c.args.address.now c.address_of-at.result.base.now c.args.value.now c.address_of-at.result.offset (c.args.node.place.base + 3) c.behind-second.result c.fresh.result c.fresh-2.result c.is_left_first-left_first.result
    c.args.code.now c.store.new.self c.both.new.code at
    refl c.behind-second.ensures c.address_of-at.ensures.base c.address_of-at.ensures.offset (c.address_of-at.ensures.typed (scoped_names c.args.scope.now) c.requires.address_typed) c.requires.value_typed
    c.fresh.ensures c.fresh-2.ensures c.is_left_first-left_first.ensures c.in_ok-store.ensures h)
    c.both.ensures.code

pub both-requires-clause-left_room : goal.both-requires-clause-left_room
both-requires-clause-left_room g c =
    let first = c.args.node.place.base + 3 in
    let whole : HasExpressionRoom first (expr_view c.args.address.now) = omega (arith, c.requires.room) in
    subst (HasExpressionRoom first) (sym c.address_of-at.ensures.base) (base_room first (expr_view c.args.address.now) whole)
