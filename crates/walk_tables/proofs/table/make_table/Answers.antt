use Rattle.std.proofs.Common.{◌∙◌}
use Rattle.cmm_tree.specs.View.{function_view}
use Rattle.walk_tables.specs.Cells.{cells}
use Rattle.walk_tables.proofs.Agreeing.{are-linked, live-iff}
use Rattle.walk_tables.proofs.Pushed.{tasks-extend}
use Rattle.walk_tables.proofs.table.make_table.Goals as goal

pub returns-clause-linked : goal.returns-clause-linked
returns-clause-linked c =
    are-linked (cells c.begin.new.self) (cells c.nodes.new.self) c.in_ok-nodes.nodes.items c.in_ok-nodes.ensures

pub returns-clause-live : goal.returns-clause-live
returns-clause-live c =
    let v1 = cells c.begin.new.self in
    let v2 = cells c.nodes.new.self in
    let b = c.in_ok-entry.ensures c.new-cells.ensures c.requires in
    let f = c.in_ok-nodes.ensures in
    live-iff v1 v2 c.in_ok-nodes.nodes.items c.in_ok-entry.entry (function_view c.args.function.now) f (tasks-extend v1 v2 c.in_ok-entry.entry f.extends b.within ∙ b.is)
