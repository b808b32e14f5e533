use Rattle.std.proofs.Common.{false, option_copied, ap, sym, ◌∙◌}
use Rattle.eval_frames.specs.Filled.{evaluated_expression, after_callee, after_waiting}
use Rattle.eval_frames.specs.Around.{around_view}
use Rattle.eval_frames.specs.Views.{here_view, world_view}
use Rattle.cmm_eval.proofs.Resumed.{stands_pushed_at}
use Rattle.cmm_eval.proofs.machine.Machine.callee.Goals as goal

pub returns-in_ok-push-in-Some-clause-meaning : goal.returns-in_ok-push-in-Some-clause-meaning
returns-in_ok-push-in-Some-clause-meaning c =
    let s = around_view c.args.around.now in
    let m = c.args.self.now in
    let p = c.in_ok-push-in-Some.ensures in
    let f = c.args.form.now in
    let before = c.args.waited.items in
    let h = here_view m.here in
    let w = world_view m.world in
    stands_pushed_at s m c.push.new.self _ (evaluated_expression s c.in-Some.expr.now false) (after_waiting s f c.args.tail before) p.here p.world p.frames
    (sym (c.prompt_callee.ensures s c.args.tail before w ∙ ap (λ o. after_callee s f c.args.tail (option_copied o) before h w) c.in-Some.is))
