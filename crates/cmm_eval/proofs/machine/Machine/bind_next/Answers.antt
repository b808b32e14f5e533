use Rattle.std.proofs.Common.{false}
use Rattle.eval_frames.specs.Filled.{evaluated_expression, bindings_from}
use Rattle.eval_frames.specs.Views.{here_view, world_view}
use Rattle.eval_frames.specs.declared.frame.Step.TheVariants as step
use Rattle.cmm_eval.proofs.Resumed.{stands_pushed_at}
use Rattle.eval_frames.proofs.Listed.{bindings_first}
use Rattle.cmm_eval.proofs.machine.Machine.bind_next.Goals as goal

pub returns-in_ok-push-in-Some-clause-meaning : goal.returns-in_ok-push-in-Some-clause-meaning
returns-in_ok-push-in-Some-clause-meaning c s =
    let p = c.in_ok-push-in-Some.ensures in
    let b = c.in-Some.binding.now in
    stands_pushed_at s c.args.self.now c.push.new.self (record { form = c.args.form; tail = c.args.tail; step = step.Bindings c.args.bindings })
    (evaluated_expression s b.value false) (bindings_from s c.args.bindings.now) p.here p.world p.frames
    (bindings_first s c.args.bindings.now b c.in-Some.field-0-1.now c.in-Some.ensures.cases.0 (here_view c.args.self.now.here) (world_view c.args.self.now.world))
