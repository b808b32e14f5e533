use Rattle.cmm_tree.specs.View.{expr_view}
use Rattle.walk_tables.specs.Cells.{cells, tasks_at}
use Rattle.walk_tables.specs.Walks.{names}
use Rattle.walk_tables.proofs.Arena.{first-rest}
use Rattle.walk_tables.proofs.Nodes.{adds-body, bodies-as, cases-first}
use Rattle.walk_tables.proofs.Pushed.{kept-scope, kept-placed, kept-within}
use Rattle.walk_tables.proofs.items.Cells.+bodies.Goals as goal

pub returns-in_ok-bodies-in-len1-up : goal.returns-in_ok-bodies-in-len1-up
returns-in_ok-bodies-in-len1-up t c = λ s r scope typed placed.
    let p = first-rest c.args.cases.now c.first-item.result c.in-len1-up.len_at_least c.first-item.is in
    let parts = cases-first (names s) c.args.cases.now c.first-item.result _ p typed in
    let f = c.in_ok-body-in-len1-up.ensures s r scope parts.0 placed in
    let m = c.in_ok-bodies-in-len1-up.ensures s (record { sound = f.sound; within = kept-within f.extends r.within }) (kept-scope f.extends scope) parts.1 (kept-placed f.extends placed) in
    bodies-as (cells c.args.self.now) (cells c.bodies.new.self) s c.args.slot (tasks_at (cells c.args.self.now) c.args.rest) _ _ c.args.cases.now _ p
    (adds-body (cells c.args.self.now) (cells c.eval.new.self) (cells c.bodies.new.self) s c.args.slot c.args.rest c.in_ok-body-in-len1-up.body _ _ _ (expr_view c.first-item.result.body) _ f r.within c.in_ok-push-in-len1-up.ensures.items m)
