use Rattle.std.proofs.Common.{◌≡◌, ◌∙◌, ◌-◌, ◌<◌, ◌∷◌, ◌++◌, List, length, take, drop, ap, sym, subst, arith}
use Rattle.std.proofs.lemmas.List.{take-append-drop, take_more_set}
use Rattle.eval_frames.specs.Filled.{resume}
use Rattle.eval_frames.specs.Passing.{returns}
use Rattle.eval_frames.specs.declared.frame.Frame.{Frame}
use Rattle.eval_frames.specs.declared.frame.Step.{Step}
use Rattle.eval_frames.specs.declared.frame.Step.TheVariants as step
use Rattle.cmm_eval.specs.declared.machine.Machine.{Machine}
use Rattle.cmm_eval.proofs.Passing.{Follows, follows_more, place_taken, frame_at}
use Rattle.cmm_eval.proofs.machine.Machine.take_place.Goals as goal

pub returns-in-None-clause-place : goal.returns-in-None-clause-place
returns-in-None-clause-place c is s h e =
    let xs = c.loop-left.self.frames.items in
    let left = c.loop-left.left in
    let f : Frame = c.index_mut.result.now in
    let kept = c.in-Return.here in
    let some = c.loop-left-test.true in
    let within = c.loop-left.invariant.within in
    let lt : left - 1 < length xs = omega arith in
    let of : Step → Frame = λ st. record { form = f.form; tail = f.tail; step = st } in
    let whole : xs ≡ take (left - 1) xs ++ of (step.Return kept c.in-Return.after) ∷ drop left xs =
    sym (take-append-drop (left - 1) xs)
    ∙ ap (λ l. take (left - 1) xs ++ l) (frame_at xs left f some within c.index_mut.ensures.value)
    ∙ ap (λ st. take (left - 1) xs ++ of st ∷ drop left xs) c.in-Return.is in
    ap (λ l. resume s l e) (c.truncate.ensures.items ∙ take_more_set xs (left - 1) (of (step.Return kept c.then.result)) lt)
    ∙ place_taken (take (left - 1) xs) (drop left xs) f.form f.tail kept c.args.tests c.loop-left.before c.in-Return.after c.then.result
    c.loop-left.invariant.follows c.then.ensures s h e
    ∙ ap (λ l. resume s l (returns s c.args.tests h e)) (sym whole)
    ∙ ap (λ (m : Machine). resume s m.frames.items (returns s c.args.tests h e)) c.loop-left.invariant.same

pub loop-left-preserved : goal.loop-left-preserved
loop-left-preserved c =
    let xs = c.loop-left.self.frames.items in
    let left = c.loop-left.left in
    let f : Frame = c.index.result.now in
    let some = c.loop-left-test.true in
    let within = c.loop-left.invariant.within in
    record {
      same = c.loop-left.invariant.same;
      within = omega arith;
      follows =
          subst (λ (l : List Frame). Follows l c.args.tests c.then-before.result) (sym (frame_at xs left f some within c.index.ensures))
          (follows_more f (drop left xs) c.args.tests c.loop-left.before c.in-Some.after c.then-before.result c.loop-left.invariant.follows c.in-Some.ensures
          c.then-before.ensures);
    }
