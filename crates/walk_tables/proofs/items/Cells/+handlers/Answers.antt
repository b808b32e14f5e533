use Rattle.walk_tables.specs.Cells.{cells}
use Rattle.walk_tables.specs.Sound.{ExtendsItems}
use Rattle.std.proofs.Common.{◌∷◌, []}
use Rattle.walk_tables.proofs.Arena.{first-rest}
use Rattle.walk_tables.proofs.Pushed.{kept-scope, kept-within}
use Rattle.walk_tables.proofs.Catches.{handlers-first, adds-handler}
use Rattle.walk_tables.proofs.items.Cells.+handlers.Goals as goal

pub returns-in_ok-handlers-in-len1-up : goal.returns-in_ok-handlers-in-len1-up
returns-in_ok-handlers-in-len1-up t c = λ s within scope typed.
    let p = first-rest c.args.left.now c.own-item.result c.in-len1-up.len_at_least c.own-item.is in
    let parts = handlers-first s c.args.left.now c.own-item.result _ p typed in
    let pushed = c.in_ok-push-in-len1-up.ensures in
    let ext : ExtendsItems (cells c.args.self.now) (cells c.push.new.self) = record { more = _ ∷ []; is = pushed.1 } in
    let more = c.in_ok-handlers-in-len1-up.ensures s (kept-within ext within) (kept-scope ext scope) parts.1 in
    adds-handler (cells c.args.self.now) (cells c.push.new.self) (cells c.handlers.new.self) c.in_ok-push-in-len1-up.field-0 c.args.scope c.args.slot _ _ c.args.first c.args.rest s c.args.left.now _ pushed p within scope parts.0 more
