use Rattle.std.proofs.Common.{◌+◌, refl}
use Rattle.std.proofs.lemmas.Result.{on_ok_weaker}
use Rattle.selection_operands.proofs.Accesses.{checkbound-is}
use Rattle.selection_operands.proofs.memory.checkbound.Goals as goal

pub returns-clause-code : goal.returns-clause-code
returns-clause-code g c =
    on_ok_weaker c.both.result
    (λ h. λ at.
    checkbound-is c.args.scope.now c.args.node.place c.args.bound.now c.args.index.now (c.args.node.place.base + 3) c.behind-second.result c.right_of_bound-right_of.result c.fresh.result c.fresh-2.result c.is_left_first-left_first.result c.is_register.result
    c.args.code.now c.checkbound.new.self c.both.new.code at
    refl c.behind-second.ensures c.right_of_bound-right_of.ensures c.is_register.ensures c.requires.bound_typed c.requires.index_typed
    c.fresh.ensures c.fresh-2.ensures c.is_left_first-left_first.ensures c.in_ok-checkbound.ensures h)
    c.both.ensures.code
