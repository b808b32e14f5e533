use Rattle.std.proofs.Common.{◌≡◌, [], false, length, ap, eq-eqb}
use Rattle.eval_frames.specs.Filled.{evaluated_expression, elements_from}
use Rattle.eval_frames.specs.Views.{here_view, world_view}
use Rattle.eval_frames.specs.declared.frame.Step.TheVariants as step
use Rattle.cmm_eval.proofs.Resumed.{stands_pushed_at}
use Rattle.eval_frames.proofs.Listed.{elements_first}
use Rattle.cmm_eval.proofs.machine.Machine.elements.Goals as goal

pub returns-in_ok-push-in-Some-clause-meaning : goal.returns-in_ok-push-in-Some-clause-meaning
returns-in_ok-push-in-Some-clause-meaning c s =
    let p = c.in_ok-push-in-Some.ensures in
    let m = c.args.self.now in
    let rest = c.in-Some.rest.now in
    let some : rest ≡ [] → ⊥ = λ e. cc (eq-eqb (length rest) 0 (ap length e), c.if-is_empty.ensures) in
    stands_pushed_at s m c.push.new.self (record { form = c.args.form; tail = c.args.tail; step = step.Elements c.in-Some.rest })
    (evaluated_expression s c.in-Some.expr.now false) (elements_from s c.args.elements.now c.args.tail) p.here p.world p.frames
    (elements_first s c.args.elements.now c.in-Some.expr.now rest c.args.tail c.in-Some.ensures.cases.0 some (here_view m.here) (world_view m.world))
