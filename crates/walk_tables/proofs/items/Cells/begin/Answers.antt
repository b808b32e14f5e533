use Rattle.std.proofs.Common.{arith, length, ◌∙◌}
use Rattle.bs_words.specs.Contents.{contents}
use Rattle.cmm_tree.specs.View.{expr_view}
use Rattle.walk_tables.specs.Cells.{cells, tasks_at}
use Rattle.walk_tables.proofs.Agreeing.{ends, begin-is, begin-typed}
use Rattle.walk_tables.proofs.Pushed.{then, ready, kept-within, tasks-extend}
use Rattle.walk_tables.proofs.items.Cells.begin.Goals as goal

pub returns : goal.returns
returns c = λ none typed.
    let v1 = cells c.push.new.self in
    let v2 = cells c.with_slots.new.self in
    let body = c.args.function.now.body in
    let ps = contents c.args.function.now.params in
    let e = ends (cells c.args.self.now) v1 c.in_ok-end.end none c.in_ok-end.ensures in
    let o = c.in_ok-scope.ensures.opens _ e.sound e.scope in
    let b = c.in_ok-body.ensures _ (record { sound = o.sound; within = kept-within o.extends e.scope.within }) o.opened (begin-typed ps c.as_slice-params.result.now body c.as_slice-params.ensures typed) (omega (arith, c.in_ok-scope.ensures.more)) in
    let x = then (c.in_ok-cell.ensures (ready b)) b in
    record {
      sound = x.sound;
      within = x.within;
      is = x.is ∙ begin-is ps c.as_slice-params.result.now (length c.as_slice-params.result.now) (expr_view body) (tasks_at v2 c.in_ok-end.end) c.as_slice-params.ensures (omega arith) (tasks-extend v1 v2 c.in_ok-end.end o.extends e.scope.within ∙ e.is);
    }
