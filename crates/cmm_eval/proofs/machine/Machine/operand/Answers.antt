use Rattle.std.proofs.Common.{false, sym}
use Rattle.eval_frames.specs.Filled.{evaluated_expression}
use Rattle.eval_frames.specs.Held.{inside}
use Rattle.eval_frames.specs.Around.{around_view}
use Rattle.eval_frames.specs.Views.{here_view, world_view}
use Rattle.eval_frames.specs.declared.frame.Step.TheVariants as step
use Rattle.cmm_eval.proofs.Resumed.{stands_pushed_at}
use Rattle.cmm_eval.proofs.machine.Machine.operand.Goals as goal

pub returns-clause-meaning : goal.returns-clause-meaning
returns-clause-meaning c =
    let p = c.in_ok-push.ensures in
    let s = around_view c.args.around.now in
    let m = c.args.self.now in
    stands_pushed_at s m c.push.new.self (record { form = c.args.form; tail = c.args.tail; step = step.Operand })
    (evaluated_expression s c.operand_of-expr.result.now false) (inside s c.args.form.now c.args.tail) p.here p.world p.frames
    (sym (c.operand_of-expr.ensures s c.args.tail (here_view m.here) (world_view m.world)))
