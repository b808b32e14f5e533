use Rattle.std.proofs.Common.{List, ◌++◌, sym, ap, ◌∙◌}
use Rattle.cmm_tree.specs.View.{expr_view}
use Rattle.walk_tables.specs.Cells.{cells}
use Rattle.walk_tables.specs.Walks.{Task, handling}
use Rattle.walk_tables.proofs.Pushed.{kept-scope, kept-within, adds-inside, tasks-extend}
use Rattle.walk_tables.proofs.Catches.{adds-handles}
use Rattle.walk_tables.proofs.items.Cells.after_try_body.Goals as goal

pub returns : goal.returns
returns c = λ s r scope handler.
    let h = c.in_ok-entry.ensures s r scope handler in
    adds-inside h.extends r.within
    (adds-handles (cells c.handling.new.self) (cells c.push.new.self) c.in_ok-cell.cell c.args.scope c.args.slot c.args.name_at _ _ c.in_ok-entry.entry c.args.rest s c.in_ok-cell.ensures (record { sound = h.sound; within = kept-within h.extends r.within }) (kept-scope h.extends scope) h.within
    (h.is ∙ ap (λ (l : List Task). handling s c.args.slot c.args.name_at c.args.name.now (expr_view c.args.handler.now) ++ l) (sym (tasks-extend (cells c.args.self.now) (cells c.handling.new.self) c.args.rest h.extends r.within))))
