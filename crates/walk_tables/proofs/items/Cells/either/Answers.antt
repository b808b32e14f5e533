use Rattle.std.proofs.Common.{List, ◌∷◌, [], ap, ◌∙◌}
use Rattle.cmm_tree.specs.View.{expr_view}
use Rattle.walk_tables.specs.Cells.{cells, tasks_at}
use Rattle.walk_tables.specs.Walks.{Task, Evaluates}
use Rattle.walk_tables.proofs.Nodes.{goes-one_of}
use Rattle.walk_tables.proofs.Pushed.{extends-then, kept-scope, kept-placed, kept-within, tasks-extend}
use Rattle.walk_tables.proofs.items.Cells.either.Goals as goal

pub returns : goal.returns
returns c = λ s r scope on_true on_false.
    let v0 = cells c.args.self.now in
    let v1 = cells c.eval.new.self in
    let v2 = cells c.eval-2.new.self in
    let f = c.in_ok-first.ensures s r scope on_true c.requires in
    let g = c.in_ok-second.ensures s (record { sound = f.sound; within = kept-within f.extends r.within }) (kept-scope f.extends scope) on_false (kept-placed f.extends c.requires) in
    record {
      extends = extends-then v0 v1 v2 f.extends g.extends;
      sound = g.sound;
      goes =
          goes-one_of v2 s c.args.slot (tasks_at v0 c.args.rest) c.forked.result (c.in_ok-first.first ∷ c.in_ok-second.second ∷ []) (expr_view c.args.on_true.now ∷ expr_view c.args.on_false.now ∷ []) c.forked.ensures (
            kept-within g.extends f.within,
            tasks-extend v1 v2 c.in_ok-first.first g.extends f.within ∙ f.is,
            (g.within, g.is ∙ ap (λ (l : List Task). Evaluates s c.args.slot (expr_view c.args.on_false.now) ∷ l) (tasks-extend v0 v1 c.args.rest f.extends r.within), tt),
          );
    }
