use Rattle.walk_tables.proofs.Arena.{plus-one}
use Rattle.std.proofs.Common.{arith}
use Rattle.cmm_tree.specs.Rows.{bindings_of}
use Rattle.cmm_tree.specs.View.{expr_view}
use Rattle.walk_tables.specs.Cells.{cells}
use Rattle.walk_tables.proofs.Pushed.{then, ready, kept-scope, kept-placed, kept-within, adds-as, adds-inside, adds-enters, opens-as}
use Rattle.walk_tables.proofs.Parts.{let-name-is, entering-is}
use Rattle.walk_tables.proofs.items.Cells.enter_one.Goals as goal

pub returns : goal.returns
returns c = λ s r scope typed body_typed.
    let o = opens-as (let-name-is s c.args.slot c.args.first.now c.type_bound-ty.result c.is_mutable-mutable.result c.type_bound-ty.ensures c.is_mutable-mutable.ensures typed.0) (c.in_ok-inner.ensures.opens s r.sound scope) in
    let l = adds-enters (cells c.bind.new.self) (cells c.push.new.self) c.in_ok-later.later _ _ _ _ _ _ c.in_ok-later.ensures (record { sound = o.sound; within = kept-within o.extends r.within }) o.opened typed.1 body_typed (omega (arith, c.requires, c.in_ok-inner.ensures.more)) in
    let b = c.in_ok-bound.ensures.adds (ready l) in
    let e = c.in_ok-cell.ensures s (ready b) (kept-scope b.extends (kept-scope l.extends (kept-scope o.extends scope))) typed.0 (kept-placed b.extends (kept-placed l.extends (kept-placed o.extends c.requires))) in
    adds-as (entering-is s c.args.slot _ c.args.first.now (bindings_of c.args.others.now) (expr_view c.args.body.now) c.is_address-address.result c.type_bound-ty.result c.type_bound-ty.ensures c.is_address-address.ensures (plus-one c.args.slot) typed.0)
    (then e (then b (adds-inside o.extends r.within l)))
