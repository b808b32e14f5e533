use Rattle.walk_tables.proofs.Arena.{plus-one, first-rest}
use Rattle.walk_tables.proofs.Pushed.{then, ready, adds-as}
use Rattle.walk_tables.proofs.Parts.{parameters-first}
use Rattle.walk_tables.proofs.items.Cells.+parameters_bound.Goals as goal

pub returns-in_ok-cell-in-len1-up : goal.returns-in_ok-cell-in-len1-up
returns-in_ok-cell-in-len1-up t c = λ r.
    let p = first-rest c.args.params.now c.first-item.result c.in-len1-up.len_at_least c.first-item.is in
    let l = c.in_ok-later-in-len1-up.ensures r in
    let d = c.in_ok-cell-in-len1-up.ensures.adds (ready l) in
    adds-as (parameters-first c.args.slot _ c.args.params.now c.first-item.result _ c.is_address-address.result c.ty.result p (plus-one c.args.slot) c.is_address-address.ensures c.ty.ensures) (then d l)
