use Rattle.std.proofs.Common.{◌≡◌, ◌-◌, ◌<◌, ◌≤◌, Some, None, false, length, take, vec_len, reverse, ap, sym, ◌∙◌, arith}
use Rattle.std.specs.Option.{option_flatten}
use Rattle.cmm_tree.specs.declared.expr.Expr.{Expr}
use Rattle.eval_frames.specs.Filled.{evaluated_expression, fills_in}
use Rattle.eval_frames.specs.Around.{around_view}
use Rattle.cmm_eval.specs.Stands.{goes_on_in}
use Rattle.eval_frames.specs.Views.{here_view, world_view}
use Rattle.cmm_eval.proofs.Resumed.{stands_pushed_at}
use Rattle.cmm_eval.proofs.Ordered.{last_first, popped, item_at, fill_before, fill_now}
use Rattle.cmm_eval.proofs.machine.Machine.fill_in.Goals as goal

pub loop-left-preserved : goal.loop-left-preserved
loop-left-preserved c =
    let xs = c.args.row.operands.now in
    let left = c.loop-left.left in
    let v = c.in-Some.value in
    let old = c.loop-left.waited in
    let some : 0 < left = c.loop-left-test.true in
    let within : left ≤ length xs = c.loop-left.invariant.within in
    let lt : left - 1 < length xs = omega arith in
    let at = item_at xs (left - 1) lt in
    let x : Expr = at.0 in
    let count : vec_len old ≡ length old.items = omega (arith, old.ok.0) in
    let p = popped old.items c.pop.new.self.items c.pop.result (vec_len old) c.pop.ensures.items c.pop.ensures.variant count in
    let has : option_flatten c.pop.result ≡ Some v = sym c.flatten.ensures ∙ c.in-Some.is in
    record {
      same = c.loop-left.invariant.same;
      within = omega arith;
      rest =
          λ s h w. ap (λ l. fills_in s c.args.form.now c.args.tail c.args.callee (reverse (take (left - 1) xs)) (reverse c.pop.new.self.items) (reverse l) h w) c.in_ok-push-in-Some.ensures.items
          ∙ fill_before s c.args.form.now c.args.tail c.args.callee xs left x old.items c.pop.new.self.items c.pop.result c.loop-left.values.items
          (last_first xs left x some within at.1) p h w v has
          ∙ c.loop-left.invariant.rest s h w;
    }

pub returns-in-None-clause-meaning : goal.returns-in-None-clause-meaning
returns-in-None-clause-meaning c =
    let s = around_view c.args.around.now in
    let xs = c.args.row.operands.now in
    let left = c.loop-left.left in
    let m = c.loop-left.self in
    let old = c.loop-left.waited in
    let x = c.index-operands-left.result in
    let some : 0 < left = c.loop-left-test.true in
    let within : left ≤ length xs = c.loop-left.invariant.within in
    let count : vec_len old ≡ length old.items = omega (arith, old.ok.0) in
    let before = popped old.items c.pop.new.self.items c.pop.result (vec_len old) c.pop.ensures.items c.pop.ensures.variant count in
    let has : option_flatten c.pop.result ≡ None = sym c.flatten.ensures ∙ c.in-None.is in
    let p = c.in_ok-push-in-None.ensures in
    let e = fills_in s c.args.form.now c.args.tail c.args.callee (reverse xs) (reverse c.args.row.waited.items) (reverse c.args.row.values.items) in
    let h = here_view m.here in
    let w = world_view m.world in
    stands_pushed_at s m c.push-in-None.new.self _ (evaluated_expression s x false) e p.here p.world p.frames
    (fill_now s c.args.form.now c.args.tail c.args.callee xs left x old.items c.pop.new.self.items c.pop.result c.loop-left.values.items
    (last_first xs left x some within c.index-operands-left.is) before h w has
    ∙ c.loop-left.invariant.rest s h w)
    ∙ ap (λ m. goes_on_in s m e) c.loop-left.invariant.same
