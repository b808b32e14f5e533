use Rattle.std.proofs.Common.{Some, false}
use Rattle.cmm_meaning.specs.Evaluation.{Gives}
use Rattle.eval_frames.specs.Filled.{evaluated_expression, does}
use Rattle.eval_frames.specs.declared.frame.Step.TheVariants as step
use Rattle.cmm_eval.proofs.Resumed.{stands_pushed}
use Rattle.cmm_eval.proofs.Ended.{second_begins}
use Rattle.cmm_eval.proofs.machine.Machine.second.Goals as goal

pub returns-clause-meaning : goal.returns-clause-meaning
returns-clause-meaning c s =
    let p = c.in_ok-push.ensures in
    let first = c.args.first in
    let left_first = c.args.left_first in
    let both = c.both_operands in
    stands_pushed s c.args.self.now c.push.new.self (record { form = c.args.form; tail = c.args.tail; step = step.Second first left_first })
    (evaluated_expression s c.earlier-expr.result.now false) (λ h w. does s (step.First left_first) c.args.form.now c.args.tail (Gives (Some first) h w)) p.here p.world p.frames
    (λ h w. second_begins s c.args.form.now left_first c.args.tail first both.result.0.now both.result.1.now c.earlier-expr.result.now (both.ensures.left s) (both.ensures.right s)
    c.earlier-expr.ensures h w)
