use Rattle.std.proofs.Common.{length, ap, sym, ◌∙◌, ◌+◌, arith}
use Rattle.cmm_tree.specs.View.{label_view}
use Rattle.walk_tables.proofs.Arena.{plus-one, first-rest}
use Rattle.walk_tables.proofs.Leavings.{row-first, row-next, find-here, find-later}
use Rattle.walk_tables.proofs.leaving.+find_handler.Goals as goal

pub overflow_add-next : goal.overflow_add-next
overflow_add-next t c = record { fits = row-first c.args.first c.args.handlers.now c.requires c.in-len1-up.len_at_least }

pub find_handler-requires : goal.find_handler-requires
find_handler-requires t c =
    let p = first-rest c.args.handlers.now c.own-item.result c.in-len1-up.len_at_least c.own-item.is in
    (omega (arith, ap length p), row-next c.args.first c.args.handlers.now c.own-item.result _ p c.requires)

pub returns-then-finds : goal.returns-then-finds
returns-then-finds t c = λ count tasks s slot all behind at.
    let p = first-rest c.args.handlers.now c.own-item.result c.in-len1-up.len_at_least c.own-item.is in
    find-here (label_view c.args.label.now) s slot c.args.in_handler all behind count tasks c.args.first c.args.handlers.now c.own-item.result _ p (sym c.finds.ensures ∙ c.if-finds.true) at

pub returns-else-finds : goal.returns-else-finds
returns-else-finds t c = λ count tasks s slot all behind at.
    let p = first-rest c.args.handlers.now c.own-item.result c.in-len1-up.len_at_least c.own-item.is in
    find-later (label_view c.args.label.now) s slot c.args.in_handler all behind count tasks c.args.first (c.args.first + 1) c.args.handlers.now c.own-item.result _ c.find_handler.result p (plus-one c.args.first) (sym c.finds.ensures ∙ c.if-finds.false) at
    (c.find_handler.ensures count tasks s slot all behind)
