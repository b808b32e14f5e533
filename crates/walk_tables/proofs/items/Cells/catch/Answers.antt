use Rattle.walk_tables.specs.Cells.{cells}
use Rattle.walk_tables.proofs.Pushed.{then, ready, kept-scope, kept-placed, kept-within, adds-inside}
use Rattle.walk_tables.proofs.Catches.{catch-ready, adds-catches}
use Rattle.walk_tables.proofs.items.Cells.catch.Goals as goal

pub returns : goal.returns
returns c = λ s r scope typed handlers.
    let h = catch-ready (cells c.args.self.now) (cells c.handlers.new.self) c.args.scope c.args.slot c.args.handlers.now c.len-first.result c.args.rest s c.len-first.ensures r scope handlers c.requires (c.in_ok-handlers.ensures s r.within scope handlers) in
    let in_h = kept-scope h.extends scope in
    let b = adds-catches (cells c.handlers.new.self) (cells c.push.new.self) c.in_ok-after_body.after_body c.args.scope c.args.slot _ _ c.len-first.result c.args.rest s c.in_ok-after_body.ensures (record { sound = h.sound; within = kept-within h.extends r.within }) in_h handlers h.row in
    then (c.in_ok-cell.ensures s (ready b) (kept-scope b.extends in_h) typed (kept-placed b.extends (kept-placed h.extends c.requires))) (adds-inside h.extends r.within b)
