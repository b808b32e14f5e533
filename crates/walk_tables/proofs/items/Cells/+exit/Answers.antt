use Rattle.std.proofs.Common.{sym, ◌∙◌, ◌<◌, length, arith}
use Rattle.std.proofs.lemmas.List.{length-reverse}
use Rattle.cmm_tree.specs.View.{label_view}
use Rattle.walk_tables.specs.Cells.{cells, scope_at, tasks_at}
use Rattle.walk_tables.proofs.Leavings.{held-row, exit-past, exit-own, exit-further, rest-within, leads-found}
use Rattle.walk_tables.proofs.items.Cells.+exit.Goals as goal

pub exit-returns-in-None : goal.exit-returns-in-None
exit-returns-in-None t c = exit-past (label_view c.args.label.now) (cells c.args.self.now) c.args.cell (sym c.get.ensures ∙ c.in-None.is)

pub exit_behind-returns-else-rest-cell : goal.exit_behind-returns-else-rest-cell
exit_behind-returns-else-rest-cell t c =
    let b : c.in-Some.rest < c.args.cell = rest-within (cells c.args.self.now) c.args.cell c.args.item c.in-Some.rest c.requires.sound c.requires.here (sym c.rest_of.ensures ∙ c.in-Some.is) in
    absurd (omega (arith, c.if-rest-cell.false))

pub exit_in-own_handler-requires : goal.exit_in-own_handler-requires
exit_in-own_handler-requires t c =
    let items = cells c.args.self.now in
    let vec = c.args.self.now.items in
    held-row (length items) (scope_at items) (tasks_at items) c.args.item (omega (arith, length-reverse vec.items, vec.ok.0, vec.ok.1, vec.small)) (c.requires.sound.held c.args.cell c.args.item c.requires.here)

pub exit_in-returns-in-Some : goal.exit_in-returns-in-Some
exit_in-returns-in-Some t c =
    let items = cells c.args.self.now in
    exit-own (label_view c.args.label.now) items c.args.cell c.args.item c.in-Some.handler c.requires.sound c.requires.here
    (leads-found (length items) (tasks_at items) c.own_handler.result _ _ c.in-Some.is (c.own_handler.ensures (length items) (scope_at items) (tasks_at items) (c.requires.sound.held c.args.cell c.args.item c.requires.here)))

pub exit_in-returns-in-None : goal.exit_in-returns-in-None
exit_in-returns-in-None t c =
    let items = cells c.args.self.now in
    exit-further (label_view c.args.label.now) items c.args.cell c.args.item c.exit_behind.result c.requires.sound c.requires.here
    (leads-found (length items) (tasks_at items) c.own_handler.result _ _ c.in-None.is (c.own_handler.ensures (length items) (scope_at items) (tasks_at items) (c.requires.sound.held c.args.cell c.args.item c.requires.here)))
    c.exit_behind.ensures
