use Rattle.std.proofs.Common.{refl, []}
use Rattle.std.proofs.lemmas.Result.{IfOk-weaker}
use Rattle.cmm_tree.specs.View.{expr_view}
use Rattle.walk_tables.specs.Cells.{cells, tasks_at}
use Rattle.walk_tables.proofs.Arena.{empty-list, first-rest}
use Rattle.walk_tables.proofs.Nodes.{steps-as, parameters-then}
use Rattle.walk_tables.proofs.items.Cells.enter_handler.Goals as goal

pub returns-in-empty : goal.returns-in-empty
returns-in-empty c =
    IfOk-weaker c.evaluate.result _ _
    (λ node h. λ s r scope typed.
    steps-as (cells c.args.self.now) (cells c.evaluate.new.self) _ _ node (parameters-then s c.args.slot _ c.args.params.now [] (expr_view c.args.body.now) (tasks_at (cells c.args.self.now) c.args.caught) (empty-list c.args.params.now c.in-empty.len_below) refl) (h s r scope typed))
    c.evaluate.ensures

pub returns-in-len1-up : goal.returns-in-len1-up
returns-in-len1-up c =
    let p = first-rest c.args.params.now c.param-item.result c.in-len1-up.len_at_least c.param-item.is in
    IfOk-weaker c.enter_bound.result _ _
    (λ node h. λ s r scope typed.
    steps-as (cells c.args.self.now) (cells c.enter_bound.new.self) _ _ node (parameters-then s c.args.slot _ c.args.params.now _ (expr_view c.args.body.now) (tasks_at (cells c.args.self.now) c.args.caught) p refl) (h s r scope typed c.requires))
    c.enter_bound.ensures
