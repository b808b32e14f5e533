use Rattle.std.proofs.Common.{◌≡◌, ◌∙◌, ℕ, Bool, true, false, ap, sym}
use Rattle.bs_words.specs.Observed.{Made}
use Rattle.bs_words.specs.declared.values.Call.{Call}
use Rattle.cmm_meaning.specs.Evaluation.{Evaluation}
use Rattle.cmm_meaning.specs.Run.{answered_as}
use Rattle.eval_frames.specs.Filled.{resume}
use Rattle.eval_frames.specs.Outside.{call_seen, returned}
use Rattle.eval_frames.specs.Around.{around_view}
use Rattle.eval_frames.specs.Views.{layout_view, here_view, world_view, call_view}
use Rattle.cmm_eval.proofs.Called.{call_is}
use Rattle.cmm_eval.proofs.Ended.{if_ok_then}
use Rattle.cmm_eval.proofs.machine.Machine.call_outside.Goals as goal

pub returns-then-frame-clause-meaning : goal.returns-then-frame-clause-meaning
returns-then-frame-clause-meaning c =
    let a = c.args.around.now in
    let s = around_view a in
    let m = c.args.self.now in
    let h = here_view m.here in
    let w = world_view m.world in
    let layout = layout_view a.layout.now in
    let written = c.args.written in
    let seen : Made = call_seen layout c.args.name.now c.args.arguments.now in
    let call : Call = record { name = c.from_vec.result; args = c.in_ok-shown.field-0 } in
    let is : call_view call ≡ seen =
    call_is call layout c.args.name.now c.args.arguments.now (c.from_vec.ensures ∙ c.in_ok-from_slice.ensures.items ∙ c.as_bytes.ensures) c.in_ok-shown.ensures in
    let ended : Bool → ℕ → Made → Evaluation = λ b end k. returned written h (answered_as b end written k w.answers w) in
    if_ok_then _ _ c.frame_call.result (λ now p. p s
    ∙ ap (resume s m.frames.items)
    (ap (λ (end : ℕ). ended true end (call_view call)) c.requires.end
    ∙ ap (λ (k : Made). ended true s.end k) is
    ∙ ap (λ (b : Bool). ended b s.end seen) (sym c.if-frame.true))) c.frame_call.ensures.meaning

pub returns-else-frame-clause-meaning : goal.returns-else-frame-clause-meaning
returns-else-frame-clause-meaning c =
    let a = c.args.around.now in
    let s = around_view a in
    let m = c.args.self.now in
    let h = here_view m.here in
    let w = world_view m.world in
    let layout = layout_view a.layout.now in
    let written = c.args.written in
    let seen : Made = call_seen layout c.args.name.now c.args.arguments.now in
    let call : Call = record { name = c.from_vec.result; args = c.in_ok-shown.field-0 } in
    let is : call_view call ≡ seen =
    call_is call layout c.args.name.now c.args.arguments.now (c.from_vec.ensures ∙ c.in_ok-from_slice.ensures.items ∙ c.as_bytes.ensures) c.in_ok-shown.ensures in
    let ended : Bool → ℕ → Made → Evaluation = λ b end k. returned written h (answered_as b end written k w.answers w) in
    if_ok_then _ _ c.plain_call.result (λ now p. p s s.end
    ∙ ap (resume s m.frames.items)
    (ap (λ (k : Made). ended false s.end k) is
    ∙ ap (λ (b : Bool). ended b s.end seen) (sym c.if-frame.false))) c.plain_call.ensures.meaning
