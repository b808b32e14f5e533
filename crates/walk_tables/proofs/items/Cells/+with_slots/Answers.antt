use Rattle.walk_tables.proofs.Arena.{plus-one, first-rest}
use Rattle.walk_tables.proofs.Pushed.{opens-as, opens-then, slots-first}
use Rattle.walk_tables.proofs.items.Cells.+with_slots.Goals as goal

pub returns-in_ok-cell-in-len1-up-clause-opens : goal.returns-in_ok-cell-in-len1-up-clause-opens
returns-in_ok-cell-in-len1-up-clause-opens t c = λ s sound scope.
    let b = c.in_ok-inner-in-len1-up.ensures.opens s sound scope in
    let w = c.in_ok-cell-in-len1-up.ensures.opens _ b.sound b.opened in
    let e = slots-first c.args.params.now c.first-item.result _ c.args.slot _ c.ty-ty.result s (first-rest c.args.params.now c.first-item.result c.in-len1-up.len_at_least c.first-item.is) (plus-one c.args.slot) c.ty-ty.ensures in
    opens-then b.extends (opens-as e w)
