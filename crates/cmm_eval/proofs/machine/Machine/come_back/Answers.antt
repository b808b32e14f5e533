use Rattle.std.proofs.Common.{◌≡◌, ◌∙◌, ◌∷◌, [], ◌++◌, List, ap}
use Rattle.eval_frames.specs.Passing.{ComesBack}
use Rattle.eval_frames.specs.Views.{here_view}
use Rattle.eval_frames.specs.declared.frame.Frame.{Frame}
use Rattle.eval_frames.specs.declared.frame.Step.TheVariants as step
use Rattle.cmm_eval.specs.declared.machine.Machine.{Machine}
use Rattle.cmm_eval.proofs.Called.{back_pushed, back_replaced}
use Rattle.cmm_eval.proofs.Ended.{if_ok_then}
use Rattle.cmm_eval.proofs.machine.Machine.come_back.Goals.{else-tail-via-then-tail+else-take_place, else-tail-via-else-tail}
use Rattle.cmm_eval.proofs.machine.Machine.come_back.Goals as goal

pub returns-then-take_place-clause-frames : goal.returns-then-take_place-clause-frames
returns-then-take_place-clause-frames c =
    back_replaced c.args.self.now.frames.items c.take_place.new.self.frames.items (here_view c.args.here) c.args.written c.written-tests.result
    c.written-tests.ensures (c.take_place.ensures.place c.if-take_place.true)

pub returns-clause-frames : goal.returns-clause-frames
returns-clause-frames c =
    let old = c.args.self.now.frames.items in
    let added : Frame = record { form = c.args.form; tail = c.args.tail; step = step.Return c.args.here c.written-tests.result } in
    let same : c.else-tail.self.frames.items ≡ old = elim c.else-tail.branch [
      | else-tail-via-then-tail+else-take_place w ↦
          ap (λ (m : Machine). m.frames.items) w.self-is ∙ w.take_place.ensures.none w.if-take_place.false
      | else-tail-via-else-tail w ↦ ap (λ (m : Machine). m.frames.items) w.self-is
    ] in
    if_ok_then _ (λ x. ComesBack old c.args.written (here_view c.args.here) c.push.new.self.frames.items) c.push.result
    (λ x p. back_pushed old c.push.new.self.frames.items c.args.form c.args.tail c.args.here c.args.written c.written-tests.result c.written-tests.ensures
    (p ∙ ap (λ (l : List Frame). l ++ added ∷ []) same)) c.push.ensures.frames
