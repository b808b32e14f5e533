use Rattle.std.proofs.Common.{[], ◌∷◌, ap, sym, subst, ◌∙◌}
use Rattle.rv_machine.specs.Services.{Stopped, returned_with}
use Rattle.rv_machine.specs.Step.{registers_after}
use Rattle.rv_machine.specs.declared.cause.Cause.TheVariants.{BadFrame}
use Rattle.mover_runtime.specs.Calling.{shown_call}
use Rattle.mover_runtime.specs.Outcome.{last_line, progress_text}
use Rattle.mover_runtime.specs.Written.{AppendsResult}
use Rattle.mover_runtime.proofs.FrameCalls.{no_trap, raises, returned}
use Rattle.mover_runtime.proofs.Writing.{writes_fault}
use Rattle.mover_runtime.proofs.calling.conclude.Goals as goal

pub returns-then-answer-eq0-clause-reported : goal.returns-then-answer-eq0-clause-reported
returns-then-answer-eq0-clause-reported g c = λ h returns all left.
    let call = shown_call c.args.row.now.name c.args.shown.now in
    let now = c.args.machine.now in (
      call ∷ [],
      returned c.args.row.now.result call c.args.answer.raises c.args.answer.value left now c.finish_call.new.machine c.if-answer-eq0.true
          (c.finish_call.ensures.exact ∙ ap (λ o. returned_with (registers_after o now.registers) now) c.wanted.ensures) h returns all,
    )

pub returns-in_err-end-clause-text : goal.returns-in_err-end-clause-text
returns-in_err-end-clause-text g c = λ h returns all left.
    let call = shown_call c.args.row.now.name c.args.shown.now in
    let now = c.args.machine.now in
    subst (AppendsResult c.from_residual-in_err-end.result (g.K.Sink.held c.args.out.now) (g.K.Sink.held c.end_stopped.new.out))
    (sym (ap progress_text (no_trap c.args.row.now.result call c.args.answer.raises c.args.answer.value left now now c.if-answer-eq0.false (sym c.if-not-has_trap_frame.ensures) h returns all)))
    (writes_fault c.from_residual-in_err-end.result (g.K.Sink.held c.args.out.now) (g.K.Sink.held c.end_stopped.new.out) (last_line (Stopped BadFrame)) c.from_residual-in_err-end.ensures.0 c.in_err-end.ensures.text)

pub returns-then-not-has_trap_frame-clause-reported : goal.returns-then-not-has_trap_frame-clause-reported
returns-then-not-has_trap_frame-clause-reported g c = λ h returns all left.
    let call = shown_call c.args.row.now.name c.args.shown.now in
    let now = c.args.machine.now in (
      [],
      Stopped BadFrame,
      no_trap c.args.row.now.result call c.args.answer.raises c.args.answer.value left now now c.if-answer-eq0.false (sym c.if-not-has_trap_frame.ensures) h returns all,
      c.in_ok-end.ensures.reported,
    )

pub returns-clause-reported : goal.returns-clause-reported
returns-clause-reported g c = λ h returns all left.
    let call = shown_call c.args.row.now.name c.args.shown.now in
    let now = c.args.machine.now in (
      call ∷ [],
      raises c.args.row.now.result call c.args.answer.raises c.args.answer.value left now c.raise.new.machine c.if-answer-eq0.false (sym c.if-not-has_trap_frame.ensures) c.raise.ensures.exact h returns all,
    )
