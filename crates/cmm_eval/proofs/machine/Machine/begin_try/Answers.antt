use Rattle.std.proofs.Common.{◌≡◌, ℕ, ◌+◌, false, ap, ◌∙◌, ◌*◌, add-one, arith}
use Rattle.cmm_meaning.specs.State.{World, within_try, taken, deepened}
use Rattle.cmm_meaning.specs.Evaluation.{Evaluation}
use Rattle.eval_frames.specs.Filled.{evaluated_expression, resume}
use Rattle.eval_frames.specs.Views.{here_view, world_view}
use Rattle.cmm_eval.proofs.Ordered.{sum_is}
use Rattle.cmm_eval.proofs.machine.Machine.begin_try.Goals as goal

pub returns-clause-meaning : goal.returns-clause-meaning
returns-clause-meaning c s =
    let m = c.args.self.now in
    let h = here_view m.here in
    let w = world_view m.world in
    let e = c.args.body.now in
    let bytes = c.in_ok-bytes.bytes in
    let before = c.in_ok-taken.field-0 in
    let sum : bytes ≡ before + 16 = sum_is c.checked_add.result bytes (before + 16) _ c.checked_add.ensures c.in_ok-bytes.ensures.ok_part in
    let was : before ≡ m.here.below + m.here.frame + 16 * m.here.tries = c.in_ok-taken.ensures in
    let is : bytes ≡ taken (within_try h) = omega arith in
    let go : ℕ → ℕ → Evaluation = λ k n. resume s m.frames.items (evaluated_expression s e false (record h { tries = k }) (deepened n w)) in
    ap (λ (v : World). resume s m.frames.items (evaluated_expression s e false (record h { tries = m.here.tries + 1 }) v)) c.deepen.ensures
    ∙ ap (go (m.here.tries + 1)) is
    ∙ ap (λ k. go k (taken (within_try h))) (add-one m.here.tries)
