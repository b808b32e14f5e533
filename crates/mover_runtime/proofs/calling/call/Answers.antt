use Rattle.std.proofs.Common.{[], Option, Some, None, drop, refl, sym, subst}
use Rattle.std.specs.Prelude.{IfOk}
use Rattle.std.specs.Io.KnownBytes.{Appends}
use Rattle.bs_words.specs.External.{External}
use Rattle.image_form.specs.Image.{IsExt}
use Rattle.image_form.specs.Tables.{ext, tables}
use Rattle.rv_machine.specs.Hart.{register}
use Rattle.rv_machine.specs.Services.{Stopped, external}
use Rattle.rv_machine.specs.declared.cause.Cause.TheVariants.{BadService}
use Rattle.mover_runtime.specs.Outcome.{ServesRun, calling_none, progress_text, last_line}
use Rattle.mover_runtime.specs.Written.{AppendsResult}
use Rattle.mover_runtime.proofs.Rows.{ext_at, has_at}
use Rattle.mover_runtime.proofs.Writing.{writes_fault}
use Rattle.mover_runtime.proofs.calling.call.Goals as goal

pub answer_call-requires-clause-few : goal.answer_call-requires-clause-few
answer_call-requires-clause-few g c =
    let rule : IsExt (ext c.in-Some.row.now) =
    has_at IsExt (tables c.image.result.now).extcs c.register-number.result (ext c.in-Some.row.now) c.image.ensures.rules.extcs.each
    (ext_at c.image.result.now (tables c.image.result.now) c.register-number.result c.register-number.result (Some c.in-Some.row.now) refl refl c.in-Some.ensures) in
    rule.few

pub returns-in-Some-clause-reported : goal.returns-in-Some-clause-reported
returns-in-Some-clause-reported g c =
    let at = ext_at c.image.result.now c.args.machine.now.image c.register-number.result (register c.args.machine.now 5) (Some c.in-Some.row.now) c.image.ensures.same c.register-number.ensures c.in-Some.ensures in
    subst (λ (o : Option External). IfOk c.answer_call.result (λ end. ServesRun end (external o (calling_none c.args.machine.now c.args.returns (drop c.args.taken.now c.args.answers.now))) c.answer_call.new.machine c.args.returns (drop c.answer_call.new.taken c.args.answers.now)))
    (sym at) c.answer_call.ensures.reported

pub returns-in-Some-clause-text : goal.returns-in-Some-clause-text
returns-in-Some-clause-text g c =
    let at = ext_at c.image.result.now c.args.machine.now.image c.register-number.result (register c.args.machine.now 5) (Some c.in-Some.row.now) c.image.ensures.same c.register-number.ensures c.in-Some.ensures in
    subst (λ (o : Option External). AppendsResult c.answer_call.result (g.K.Sink.held c.args.out.now) (g.K.Sink.held c.answer_call.new.out) (progress_text (external o (calling_none c.args.machine.now c.args.returns (drop c.args.taken.now c.args.answers.now)))))
    (sym at) c.answer_call.ensures.text

pub returns-in_ok-end-in-None-clause-reported : goal.returns-in_ok-end-in-None-clause-reported
returns-in_ok-end-in-None-clause-reported g c =
    let at = ext_at c.image.result.now c.args.machine.now.image c.register-number.result (register c.args.machine.now 5) None c.image.ensures.same c.register-number.ensures c.in-None.ensures in
    subst (λ (o : Option External). ServesRun (Some c.in_ok-end-in-None.end) (external o (calling_none c.args.machine.now c.args.returns (drop c.args.taken.now c.args.answers.now))) c.args.machine.now c.args.returns (drop c.args.taken.now c.args.answers.now))
    (sym at) ([], Stopped BadService, refl, c.in_ok-end-in-None.ensures.reported)

pub returns-in_ok-end-in-None-clause-text : goal.returns-in_ok-end-in-None-clause-text
returns-in_ok-end-in-None-clause-text g c =
    let at = ext_at c.image.result.now c.args.machine.now.image c.register-number.result (register c.args.machine.now 5) None c.image.ensures.same c.register-number.ensures c.in-None.ensures in
    subst (λ (o : Option External). Appends (g.K.Sink.held c.args.out.now) (g.K.Sink.held c.end_stopped.new.out) (progress_text (external o (calling_none c.args.machine.now c.args.returns (drop c.args.taken.now c.args.answers.now)))))
    (sym at) c.in_ok-end-in-None.ensures.text

pub returns-in_err-end-in-None-clause-text : goal.returns-in_err-end-in-None-clause-text
returns-in_err-end-in-None-clause-text g c =
    let at = ext_at c.image.result.now c.args.machine.now.image c.register-number.result (register c.args.machine.now 5) None c.image.ensures.same c.register-number.ensures c.in-None.ensures in
    subst (λ (o : Option External). AppendsResult c.from_residual.result (g.K.Sink.held c.args.out.now) (g.K.Sink.held c.end_stopped.new.out) (progress_text (external o (calling_none c.args.machine.now c.args.returns (drop c.args.taken.now c.args.answers.now)))))
    (sym at) (writes_fault c.from_residual.result (g.K.Sink.held c.args.out.now) (g.K.Sink.held c.end_stopped.new.out) (last_line (Stopped BadService)) c.from_residual.ensures.0 c.in_err-end-in-None.ensures.text)
