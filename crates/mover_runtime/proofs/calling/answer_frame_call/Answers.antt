use Rattle.std.proofs.Common.{◌≡◌, ◌+◌, ℕ, List, [], drop, take, ap, sym, subst, refl, ◌∙◌}
use Rattle.std.specs.Io.KnownBytes.{Appends}
use Rattle.bs_words.specs.Observed.{Made}
use Rattle.bs_words.specs.declared.values.Obs.{Obs}
use Rattle.image_form.specs.Tables.{ext}
use Rattle.rv_machine.specs.FrameCalls.{collected}
use Rattle.rv_machine.specs.Hart.{Placed}
use Rattle.rv_machine.specs.Relocation.{Goes, NoHeap, Refused}
use Rattle.rv_machine.specs.Services.{Asks, HeapOut, Machine, Now, Stopped, call_made, concluded, machine_frame_answered}
use Rattle.mover_runtime.specs.Calling.{shown_call}
use Rattle.mover_runtime.specs.Outcome.{ServesRun, calling_none, last_line, progress_text}
use Rattle.mover_runtime.specs.Schedules.{schedule_of}
use Rattle.mover_runtime.specs.Written.{AppendsResult}
use Rattle.mover_runtime.proofs.FrameCalls.{asks, comes, ok_then, two_left}
use Rattle.mover_runtime.proofs.Writing.{writes_fault}
use Rattle.mover_runtime.proofs.calling.answer_frame_call.Goals as goal

pub returns-in_default-clause-reported : goal.returns-in_default-clause-reported
returns-in_default-clause-reported g c =
    let h = c.args.machine.now in
    let schedule = schedule_of c.args.schedule.now in
    let plan : List Placed → List ℕ = schedule.plan h.services in
    let answers = drop c.args.taken.now c.args.answers.now in
    let m : Machine = calling_none h c.args.returns answers in
    let ret = c.args.row.now.result in
    let call = call_made (ext c.args.row.now) h in
    ([], Asks call, asks plan ret call answers m c.in_default.ensures, refl)

pub returns-in_ok-end-in-HeapOut-clause-reported : goal.returns-in_ok-end-in-HeapOut-clause-reported
returns-in_ok-end-in-HeapOut-clause-reported g c =
    let h = c.args.machine.now in
    let schedule = schedule_of c.args.schedule.now in
    let plan : List Placed → List ℕ = schedule.plan h.services in
    let answers = drop c.args.taken.now c.args.answers.now in
    let m : Machine = calling_none h c.args.returns answers in
    let ret = c.args.row.now.result in
    let call = call_made (ext c.args.row.now) h in
    let planned = c.plan-plan.ensures ∙ ap schedule.plan c.services.ensures in
    let two = c.in-Some.ensures in
    let came : collected plan h ≡ NoHeap = ap (λ (p : List Placed → List ℕ). collected p h) (sym planned) ∙ c.in-HeapOut.ensures.exact in
    let is = comes plan ret call answers m c.in-Some.answer.raises c.in-Some.answer.value two.0 two.1 (NoHeap) came in
    ([], HeapOut, is, c.in_ok-end-in-HeapOut.ensures.reported)

pub returns-in_ok-end-in-Stopped-clause-reported : goal.returns-in_ok-end-in-Stopped-clause-reported
returns-in_ok-end-in-Stopped-clause-reported g c =
    let h = c.args.machine.now in
    let schedule = schedule_of c.args.schedule.now in
    let plan : List Placed → List ℕ = schedule.plan h.services in
    let answers = drop c.args.taken.now c.args.answers.now in
    let m : Machine = calling_none h c.args.returns answers in
    let ret = c.args.row.now.result in
    let call = call_made (ext c.args.row.now) h in
    let planned = c.plan-plan.ensures ∙ ap schedule.plan c.services.ensures in
    let two = c.in-Some.ensures in
    let came : collected plan h ≡ Refused c.in-Stopped.cause = ap (λ (p : List Placed → List ℕ). collected p h) (sym planned) ∙ c.in-Stopped.ensures.exact in
    let is = comes plan ret call answers m c.in-Some.answer.raises c.in-Some.answer.value two.0 two.1 (Refused c.in-Stopped.cause) came in
    ([], Stopped c.in-Stopped.cause, is, c.in_ok-end-in-Stopped.ensures.reported)

pub returns-in_ok-end-in-Stopped-clause-text : goal.returns-in_ok-end-in-Stopped-clause-text
returns-in_ok-end-in-Stopped-clause-text g c =
    let h = c.args.machine.now in
    let schedule = schedule_of c.args.schedule.now in
    let plan : List Placed → List ℕ = schedule.plan h.services in
    let answers = drop c.args.taken.now c.args.answers.now in
    let m : Machine = calling_none h c.args.returns answers in
    let ret = c.args.row.now.result in
    let call = call_made (ext c.args.row.now) h in
    let planned = c.plan-plan.ensures ∙ ap schedule.plan c.services.ensures in
    let two = c.in-Some.ensures in
    let came : collected plan h ≡ Refused c.in-Stopped.cause = ap (λ (p : List Placed → List ℕ). collected p h) (sym planned) ∙ c.in-Stopped.ensures.exact in
    let is = comes plan ret call answers m c.in-Some.answer.raises c.in-Some.answer.value two.0 two.1 (Refused c.in-Stopped.cause) came in
    subst (Appends (g.K.Sink.held c.args.out.now) (g.K.Sink.held c.end_stopped.new.out)) (sym (ap progress_text is)) c.in_ok-end-in-Stopped.ensures.text

pub returns-in_err-end-in-Stopped-clause-text : goal.returns-in_err-end-in-Stopped-clause-text
returns-in_err-end-in-Stopped-clause-text g c =
    let h = c.args.machine.now in
    let schedule = schedule_of c.args.schedule.now in
    let plan : List Placed → List ℕ = schedule.plan h.services in
    let answers = drop c.args.taken.now c.args.answers.now in
    let m : Machine = calling_none h c.args.returns answers in
    let ret = c.args.row.now.result in
    let call = call_made (ext c.args.row.now) h in
    let planned = c.plan-plan.ensures ∙ ap schedule.plan c.services.ensures in
    let two = c.in-Some.ensures in
    let came : collected plan h ≡ Refused c.in-Stopped.cause = ap (λ (p : List Placed → List ℕ). collected p h) (sym planned) ∙ c.in-Stopped.ensures.exact in
    let is = comes plan ret call answers m c.in-Some.answer.raises c.in-Some.answer.value two.0 two.1 (Refused c.in-Stopped.cause) came in
    subst (AppendsResult c.from_residual-in_err-end-in-Stopped.result (g.K.Sink.held c.args.out.now) (g.K.Sink.held c.end_stopped.new.out)) (sym (ap progress_text is))
    (writes_fault c.from_residual-in_err-end-in-Stopped.result (g.K.Sink.held c.args.out.now) (g.K.Sink.held c.end_stopped.new.out) (last_line (Stopped c.in-Stopped.cause)) c.from_residual-in_err-end-in-Stopped.ensures.0 c.in_err-end-in-Stopped.ensures.text)

pub returns-in-Goes-clause-left : goal.returns-in-Goes-clause-left
returns-in-Goes-clause-left g c =
    let two = c.in-Some.ensures in
    (two_left c.args.answers.now c.args.taken.now c.in-Some.answer.raises c.in-Some.answer.value two.0 two.1).1

pub returns-in-Goes-clause-reported : goal.returns-in-Goes-clause-reported
returns-in-Goes-clause-reported g c =
    let h = c.args.machine.now in
    let schedule = schedule_of c.args.schedule.now in
    let plan : List Placed → List ℕ = schedule.plan h.services in
    let answers = drop c.args.taken.now c.args.answers.now in
    let m : Machine = calling_none h c.args.returns answers in
    let ret = c.args.row.now.result in
    let call = call_made (ext c.args.row.now) h in
    let planned = c.plan-plan.ensures ∙ ap schedule.plan c.services.ensures in
    let two = c.in-Some.ensures in
    let came : collected plan h ≡ Goes c.count_frame_call.new.machine = ap (λ (p : List Placed → List ℕ). collected p h) (sym planned) ∙ c.in-Goes.ensures.exact in
    let is = comes plan ret call answers m c.in-Some.answer.raises c.in-Some.answer.value two.0 two.1 (Goes c.count_frame_call.new.machine) came in
    let rest = (two_left c.args.answers.now c.args.taken.now c.in-Some.answer.raises c.in-Some.answer.value two.0 two.1).0 in
    let showed : shown_call c.args.row.now.name (take c.len.result c.observe_arguments-shown.result) ≡ call =
    ap (λ (os : List Obs). shown_call c.args.row.now.name os) (ap (λ (n : ℕ). take n c.observe_arguments-shown.result) c.len.ensures ∙ c.observe_arguments-shown.ensures.shown) in
    let whole : machine_frame_answered plan ret call answers m ≡ concluded ret (shown_call c.args.row.now.name (take c.len.result c.observe_arguments-shown.result)) c.in-Some.answer.raises c.in-Some.answer.value two.0 c.count_frame_call.new.machine m =
    is ∙ ap (λ (k : Made). concluded ret k c.in-Some.answer.raises c.in-Some.answer.value two.0 c.count_frame_call.new.machine m) (sym showed) in
    ok_then c.conclude.result _ _
    (λ end p. subst (λ (now : Now). ServesRun end now c.conclude.new.machine c.args.returns (drop (c.args.taken.now + 2) c.args.answers.now)) (sym whole)
    (subst (λ (left : List ℕ). ServesRun end (concluded ret (shown_call c.args.row.now.name (take c.len.result c.observe_arguments-shown.result)) c.in-Some.answer.raises c.in-Some.answer.value two.0 c.count_frame_call.new.machine m) c.conclude.new.machine c.args.returns left) (sym rest)
    (p h c.args.returns answers two.0)))
    c.conclude.ensures.reported
