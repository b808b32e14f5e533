use Rattle.std.proofs.Common.{false}
use Rattle.std.specs.Prelude.{reverse}
use Rattle.eval_frames.specs.Filled.{evaluated_expression, operated_by}
use Rattle.eval_frames.specs.Around.{around_view}
use Rattle.eval_frames.specs.declared.frame.Step.TheVariants as step
use Rattle.cmm_eval.proofs.Resumed.{stands_pushed}
use Rattle.cmm_eval.proofs.Ended.{late_callee}
use Rattle.cmm_eval.proofs.machine.Machine.operate.Goals as goal

pub returns-in-App-clause-meaning : goal.returns-in-App-clause-meaning
returns-in-App-clause-meaning c =
    let s = around_view c.args.around.now in
    let p = c.in_ok-push-in-None.ensures in
    let form = c.args.form in
    let tail = c.args.tail in
    let f = c.in-App in
    let values = reverse c.args.values.items in
    stands_pushed s c.args.self.now c.push.new.self (record { form = form; tail = tail; step = step.LateCallee c.args.values })
    (evaluated_expression s c.deref.result.now false) (λ h w. operated_by s form.now tail c.args.callee values h w) p.here p.world p.frames
    (λ h w. late_callee s form.now f.late f.arguments f.result f.result_at tail c.args.callee c.deref.result.now values f.is c.in-None.is c.deref.ensures h w)
