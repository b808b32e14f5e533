use Rattle.walk_tables.proofs.Arena.{plus-one}
use Rattle.std.proofs.Common.{◌+◌, ◌∷◌, [], ◌∙◌, ◌++◌, append_assoc}
use Rattle.cmm_tree.specs.View.{expr_view, params_view}
use Rattle.walk_tables.specs.Cells.{cells, tasks_at}
use Rattle.walk_tables.specs.Walks.{Binds, Evaluates, parameters_bound}
use Rattle.walk_tables.proofs.Nodes.{goes-does, steps-as, first-parameter}
use Rattle.walk_tables.proofs.Pushed.{then, ready}
use Rattle.walk_tables.proofs.items.Cells.enter_bound.Goals as goal

pub returns : goal.returns
returns c = λ s r scope typed placed.
    let v0 = cells c.args.self.now in
    let v2 = cells c.parameters_bound.new.self in
    let behind = tasks_at v0 c.args.handled.caught in
    let others = parameters_bound (c.args.slot + 1) (params_view c.args.others.now) in
    let e = c.in_ok-evaluated.ensures s r scope typed placed in
    let x = then (c.in_ok-bound.ensures (ready e)) e in
    steps-as v0 v2 _ _ c.telling.result (first-parameter s c.args.slot c.args.handled.free _ c.args.param.now c.args.others.now c.is_address-address.result c.ty.result (expr_view c.args.handled.body.now) behind (plus-one c.args.slot) c.is_address-address.ensures c.ty.ensures)
    (record {
      extends = x.extends;
      sound = x.sound;
      goes =
          goes-does v2 (Binds c.args.slot c.is_address-address.result c.args.param.now.at) (others ++ (Evaluates s c.args.handled.free (expr_view c.args.handled.body.now) ∷ behind)) c.telling.result c.in_ok-bound.bound c.telling.ensures x.within
          (x.is ∙ append_assoc others (Evaluates s c.args.handled.free (expr_view c.args.handled.body.now) ∷ []) behind);
    })
