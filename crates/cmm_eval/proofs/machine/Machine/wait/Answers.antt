use Rattle.std.proofs.Common.{◌≡◌, ◌-◌, ◌<◌, ◌≤◌, ◌∷◌, Some, true, false, length, take, reverse, ap, sym, subst, ◌∙◌, arith}
use Rattle.cmm_tree.specs.View.{expr_view}
use Rattle.cmm_types.specs.Light.{is_light_address}
use Rattle.cmm_meaning.specs.State.{Here, scope}
use Rattle.cmm_meaning.specs.Evaluation.{with_value}
use Rattle.eval_frames.specs.Filled.{evaluated_expression, waits_for}
use Rattle.eval_frames.specs.Around.{around_view}
use Rattle.cmm_eval.specs.Stands.{goes_on_in}
use Rattle.eval_frames.specs.Views.{here_view, world_view}
use Rattle.cmm_eval.proofs.Resumed.{stands_pushed_at}
use Rattle.cmm_eval.proofs.Ordered.{last_first, wait_light, wait_other}
use Rattle.cmm_eval.proofs.machine.Machine.wait.Goals as goal

pub loop-left-preserved : goal.loop-left-preserved
loop-left-preserved c =
    let xs = c.args.operands.now in
    let left = c.loop-left.left in
    let x = c.index-operands-left.result in
    let h = here_view c.args.self.now.here in
    let some : 0 < left = c.loop-left-test.true in
    let within : left ≤ length xs = c.loop-left.invariant.within in
    let light : is_light_address (scope h) (expr_view x) ≡ true =
    ap (λ m. is_light_address (scope (here_view m.here)) (expr_view x)) (sym c.loop-left.invariant.same)
    ∙ sym c.is_light_address.ensures
    ∙ c.if-not-is_light_address.false in
    record {
      same = c.loop-left.invariant.same;
      within = omega arith;
      rest =
          λ s w. ap (λ l. waits_for s c.args.form.now c.args.tail (reverse (take (left - 1) xs)) (reverse l) h w) c.in_ok-push-2.ensures.items
          ∙ wait_light s c.args.form.now c.args.tail xs left x c.loop-left.values.items (last_first xs left x some within c.index-operands-left.is) h w light
          ∙ c.loop-left.invariant.rest s w;
    }

pub returns-then-not-is_light_address-clause-meaning : goal.returns-then-not-is_light_address-clause-meaning
returns-then-not-is_light_address-clause-meaning c =
    let s = around_view c.args.around.now in
    let f = c.args.form.now in
    let tail = c.args.tail in
    let xs = c.args.operands.now in
    let left = c.loop-left.left in
    let x = c.index-operands-left.result in
    let m = c.loop-left.self in
    let h = here_view c.args.self.now.here in
    let w = world_view m.world in
    let some : 0 < left = c.loop-left-test.true in
    let within : left ≤ length xs = c.loop-left.invariant.within in
    let other : is_light_address (scope h) (expr_view x) ≡ false =
    ap (λ m. is_light_address (scope (here_view m.here)) (expr_view x)) (sym c.loop-left.invariant.same)
    ∙ sym c.is_light_address.ensures
    ∙ c.if-not-is_light_address.true in
    let p = c.in_ok-push.ensures in
    let e = waits_for s f tail (reverse xs) (reverse c.args.values.items) in
    stands_pushed_at s m c.push.new.self _ (evaluated_expression s x false) e p.here p.world p.frames
    (subst (λ (h : Here). with_value (evaluated_expression s x false h w)
    (λ v h w. waits_for s f tail (reverse (take (left - 1) xs)) (Some v ∷ reverse c.loop-left.values.items) h w) ≡ e h w)
    (ap (λ m. here_view m.here) (sym c.loop-left.invariant.same))
    (wait_other s f tail xs left x c.loop-left.values.items (last_first xs left x some within c.index-operands-left.is) h w other
    ∙ c.loop-left.invariant.rest s w))
    ∙ ap (λ m. goes_on_in s m e) c.loop-left.invariant.same
