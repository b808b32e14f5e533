use Rattle.std.proofs.Common.{List, ◌∷◌, ◌++◌, ◌+◌, length, true, subst, sym, ap, ◌∙◌}
use Rattle.cmm_tree.specs.View.{expr_view, params_view}
use Rattle.cmm_tree.specs.declared.file.Param.{Param}
use Rattle.cmm_types.specs.Annotated.{IsAnnotated}
use Rattle.cmm_tree.specs.Rows.{handlers_of}
use Rattle.cmm_types.specs.Types.{Scoped}
use Rattle.walk_tables.specs.Cells.{cells, tasks_at}
use Rattle.walk_tables.specs.Sound.{Steps}
use Rattle.walk_tables.specs.Walks.{Catches, Evaluates, parameters_bound, with_slots}
use Rattle.walk_tables.proofs.Catches.{adds-catches}
use Rattle.walk_tables.proofs.Nodes.{steps-after, steps-as, catch-behind}
use Rattle.walk_tables.proofs.Pushed.{extends-then, kept-scope, kept-within, tasks-extend, names-slots, opens-as}
use Rattle.walk_tables.proofs.items.Cells.handle.Goals as goal

pub returns : goal.returns
returns c = λ s r scope typed row own.
    let v0 = cells c.args.self.now in
    let v1 = cells c.push.new.self in
    let v2 = cells c.with_slots.new.self in
    let v3 = cells c.enter_handler.new.self in
    let ps = params_view c.args.own.now.params.items in
    let inner = with_slots c.args.slot ps s in
    let T : List Scoped → Type 0 = λ l. IsAnnotated l c.args.own.now.body in
    let Q : List Param → Type 0 = λ l. Steps v2 v3 (parameters_bound c.args.slot (params_view l) ++ (Evaluates inner (c.args.slot + length (params_view l)) (expr_view c.args.own.now.body) ∷ tasks_at v2 c.in_ok-caught.caught)) c.in_ok-node.node in
    let k = adds-catches v0 v1 c.in_ok-caught.caught c.args.scope c.args.slot _ _ c.args.first c.args.rest s c.in_ok-caught.ensures r scope typed row in
    let o = opens-as (ap (λ (l : List Param). with_slots c.args.slot (params_view l) s) c.as_slice-params.ensures.value) (c.in_ok-inner.ensures.opens s k.sound (kept-scope k.extends scope)) in
    let n = c.in_ok-node.ensures inner (record { sound = o.sound; within = kept-within o.extends k.within }) o.opened (subst T (sym (names-slots c.args.slot ps s)) own) in
    steps-after v0 v2 v3 _ c.in_ok-node.node (extends-then v0 v1 v2 k.extends o.extends)
    (steps-as v2 v3 _ _ c.in_ok-node.node (catch-behind inner c.args.slot ps (expr_view c.args.own.now.body) (tasks_at v2 c.in_ok-caught.caught) (Catches s c.args.slot true (handlers_of c.args.handlers.now) ∷ tasks_at v0 c.args.rest) (tasks-extend v1 v2 c.in_ok-caught.caught o.extends k.within ∙ k.is)) (subst Q c.as_slice-params.ensures.value n))
