use Rattle.std.proofs.Common.{false, sym, ap, ◌∙◌}
use Rattle.cmm_tree.specs.declared.expr.Expr.{Expr}
use Rattle.cmm_meaning.specs.Evaluation.{both}
use Rattle.eval_frames.specs.Filled.{evaluated_expression, left_operand, right_of, joined_by, does}
use Rattle.eval_frames.specs.Held.{inside}
use Rattle.eval_frames.specs.Around.{around_view}
use Rattle.eval_frames.specs.Views.{here_view, world_view}
use Rattle.eval_frames.specs.declared.frame.Step.TheVariants as step
use Rattle.cmm_eval.proofs.Resumed.{stands_pushed_at}
use Rattle.cmm_eval.proofs.Ordered.{both_begun}
use Rattle.cmm_eval.proofs.machine.Machine.operands.Goals as goal

pub returns-clause-meaning : goal.returns-clause-meaning
returns-clause-meaning c =
    let p = c.in_ok-push.ensures in
    let s = around_view c.args.around.now in
    let m = c.args.self.now in
    let f = c.args.form.now in
    let t = c.is_left_first-left_first.result in
    let h = here_view m.here in
    let w = world_view m.world in
    stands_pushed_at s m c.push.new.self (record { form = c.args.form; tail = c.args.tail; step = step.First t }) (evaluated_expression s c.earlier.result.now false)
    (inside s f c.args.tail) p.here p.world p.frames
    (ap (λ (e : Expr). does s (step.First t) f c.args.tail (evaluated_expression s e false h w)) c.earlier.ensures
    ∙ both_begun s f t c.both_operands.result.0.now c.both_operands.result.1.now c.args.tail h w (c.both_operands.ensures.left s h w) (c.both_operands.ensures.right s h w)
    ∙ ap (λ t. both t (left_operand s f) (right_of s f) h w (λ a b h w. joined_by s f a b h w)) c.is_left_first-left_first.ensures
    ∙ sym (c.both_operands.ensures.whole s c.args.tail h w))
