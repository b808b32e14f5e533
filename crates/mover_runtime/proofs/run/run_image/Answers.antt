use Rattle.std.proofs.Common.{◌≡◌, ℕ, suc, add-one, ◌+◌, ◌-◌, ◌++◌, Option, Some, None, drop, ap, sym, ◌∙◌, subst, arith}
use Rattle.std.specs.Io.KnownBytes.{Appends}
use Rattle.rv_machine.specs.Hart.{hart}
use Rattle.rv_machine.specs.Run.{after_next, seen}
use Rattle.rv_machine.specs.Services.{Now, Running}
use Rattle.rv_machine.specs.Text.{calls_text, outcome_text}
use Rattle.mover_runtime.specs.Outcome.{ServesRun, asked_if, calling_none, end_reported, last_line, progress_text}
use Rattle.mover_runtime.specs.Schedules.{schedule_of}
use Rattle.mover_runtime.specs.Standing.{StandsAt}
use Rattle.mover_runtime.specs.Written.{AppendsResult}
use Rattle.mover_runtime.specs.declared.outcome.RunEnd.{RunEnd}
use Rattle.mover_runtime.proofs.Runs.{state, advances, goes_on, ends_so, text_so, text_on, text_begins, stands_so, outcome_line}
use Rattle.mover_runtime.proofs.Retiring.{retires}
use Rattle.mover_runtime.proofs.Writing.{appends_then, writes_then, writes_first}
use Rattle.mover_runtime.proofs.run.run_image.Goals as goal

pub loop-count-preserved : goal.loop-count-preserved
loop-count-preserved g c =
    let inv = c.loop-count.invariant in
    let answers = drop c.loop-count.taken c.args.answers.now in
    let schedule = schedule_of c.args.schedule.now in
    let h = c.loop-count.machine in
    let asks = c.next-asked.result in
    let a : asks ≡ schedule.asks h.retired = c.next-asked.ensures.asks c.args.schedule.now inv.5 ∙ ap schedule.asks (sym inv.2) in
    let now : Now = after_next schedule (hart (asked_if asks h)) (calling_none c.loop-count.machine c.entry_result-returns.result answers) in
    let s : ServesRun None now c.one.new.machine c.entry_result-returns.result (drop c.one.new.taken c.args.answers.now) =
    subst (λ (o : Option RunEnd). ServesRun o now c.one.new.machine c.entry_result-returns.result (drop c.one.new.taken c.args.answers.now)) c.in_default.is c.in_ok-end.ensures.reported in
    let kept = retires schedule asks h c.one.new.machine c.entry_result-returns.result answers (drop c.one.new.taken c.args.answers.now) s.0 s.1 in (
      (
        inv.0.0 ++ s.0,
        subst (Appends (g.K.Sink.held c.args.out.now) (g.K.Sink.held c.one.new.out))
            (text_on inv.0.0 s.0 now c.one.new.machine c.entry_result-returns.result (drop c.one.new.taken c.args.answers.now) s.1)
            (appends_then (g.K.Sink.held c.args.out.now) (g.K.Sink.held c.loop-count.out) (g.K.Sink.held c.one.new.out) (calls_text inv.0.0) (progress_text now) inv.0.1 c.in_ok-end.ensures.text),
        inv.0.2
            ∙ advances schedule c.args.limit c.loop-count.count asks h c.entry_result-returns.result answers inv.0.0 c.loop-count-test.true a
            ∙ goes_on schedule (c.args.limit - (c.loop-count.count + 1)) inv.0.0 s.0 now c.one.new.machine c.entry_result-returns.result (drop c.one.new.taken c.args.answers.now) s.1,
      ),
      omega arith,
      kept.0 ∙ ap suc inv.2 ∙ sym (add-one c.loop-count.count),
      c.in_ok-end.ensures.left,
      omega (arith, inv.4, c.in_ok-end.ensures.counts),
      subst (λ (n : ℕ). StandsAt c.args.schedule.now n c.next-asked.new.self) (sym (add-one c.loop-count.count)) (c.next-asked.ensures.on c.args.schedule.now inv.5),
      omega (arith, kept.1, inv.6),
    )

pub returns-in-Some-clause-reported : goal.returns-in-Some-clause-reported
returns-in-Some-clause-reported g c =
    let inv = c.loop-count.invariant in
    let answers = drop c.loop-count.taken c.args.answers.now in
    let schedule = schedule_of c.args.schedule.now in
    let h = c.loop-count.machine in
    let asks = c.next-asked.result in
    let a : asks ≡ schedule.asks h.retired = c.next-asked.ensures.asks c.args.schedule.now inv.5 ∙ ap schedule.asks (sym inv.2) in
    let now : Now = after_next schedule (hart (asked_if asks h)) (calling_none c.loop-count.machine c.entry_result-returns.result answers) in
    let s : ServesRun (Some c.in-Some.end) now c.one.new.machine c.entry_result-returns.result (drop c.one.new.taken c.args.answers.now) =
    subst (λ (o : Option RunEnd). ServesRun o now c.one.new.machine c.entry_result-returns.result (drop c.one.new.taken c.args.answers.now)) c.in-Some.is c.in_ok-end.ensures.reported in
    let run = inv.0.2
    ∙ advances schedule c.args.limit c.loop-count.count asks h c.entry_result-returns.result answers inv.0.0 c.loop-count-test.true a
    ∙ ends_so schedule (c.args.limit - (c.loop-count.count + 1)) inv.0.0 s.0 now s.1 s.2 in
    s.3 ∙ sym (ap (λ (n : Now). end_reported (seen n).end) run)

pub returns-in-Some-clause-text : goal.returns-in-Some-clause-text
returns-in-Some-clause-text g c =
    let inv = c.loop-count.invariant in
    let answers = drop c.loop-count.taken c.args.answers.now in
    let schedule = schedule_of c.args.schedule.now in
    let h = c.loop-count.machine in
    let asks = c.next-asked.result in
    let a : asks ≡ schedule.asks h.retired = c.next-asked.ensures.asks c.args.schedule.now inv.5 ∙ ap schedule.asks (sym inv.2) in
    let now : Now = after_next schedule (hart (asked_if asks h)) (calling_none c.loop-count.machine c.entry_result-returns.result answers) in
    let s : ServesRun (Some c.in-Some.end) now c.one.new.machine c.entry_result-returns.result (drop c.one.new.taken c.args.answers.now) =
    subst (λ (o : Option RunEnd). ServesRun o now c.one.new.machine c.entry_result-returns.result (drop c.one.new.taken c.args.answers.now)) c.in-Some.is c.in_ok-end.ensures.reported in
    let run = inv.0.2
    ∙ advances schedule c.args.limit c.loop-count.count asks h c.entry_result-returns.result answers inv.0.0 c.loop-count-test.true a
    ∙ ends_so schedule (c.args.limit - (c.loop-count.count + 1)) inv.0.0 s.0 now s.1 s.2 in
    subst (Appends (g.K.Sink.held c.args.out.now) (g.K.Sink.held c.one.new.out))
    (text_so inv.0.0 s.0 now s.1 s.2 ∙ sym (ap (λ (n : Now). outcome_text (seen n)) run))
    (appends_then (g.K.Sink.held c.args.out.now) (g.K.Sink.held c.loop-count.out) (g.K.Sink.held c.one.new.out) (calls_text inv.0.0) (progress_text now) inv.0.1 c.in_ok-end.ensures.text)

pub returns-in_err-end-clause-text : goal.returns-in_err-end-clause-text
returns-in_err-end-clause-text g c =
    let inv = c.loop-count.invariant in
    let answers = drop c.loop-count.taken c.args.answers.now in
    let schedule = schedule_of c.args.schedule.now in
    let h = c.loop-count.machine in
    let asks = c.next-asked.result in
    let a : asks ≡ schedule.asks h.retired = c.next-asked.ensures.asks c.args.schedule.now inv.5 ∙ ap schedule.asks (sym inv.2) in
    let now : Now = after_next schedule (hart (asked_if asks h)) (calling_none c.loop-count.machine c.entry_result-returns.result answers) in
    let run = inv.0.2
    ∙ advances schedule c.args.limit c.loop-count.count asks h c.entry_result-returns.result answers inv.0.0 c.loop-count-test.true a in
    let begins = text_begins schedule (c.args.limit - (c.loop-count.count + 1)) inv.0.0 now in
    subst (AppendsResult c.from_residual.result (g.K.Sink.held c.args.out.now) (g.K.Sink.held c.one.new.out))
    (sym (ap (λ (n : Now). outcome_text (seen n)) run ∙ begins.1))
    (writes_then c.from_residual.result (g.K.Sink.held c.args.out.now) (g.K.Sink.held c.loop-count.out) (g.K.Sink.held c.one.new.out) (calls_text inv.0.0) (progress_text now ++ begins.0) inv.0.1
    (writes_first c.from_residual.result (g.K.Sink.held c.loop-count.out) (g.K.Sink.held c.one.new.out) (progress_text now) begins.0 c.from_residual.ensures.0 c.in_err-end.ensures.text))

pub returns-clause-text : goal.returns-clause-text
returns-clause-text g c =
    let inv = c.loop-count.invariant in
    let answers = drop c.loop-count.taken c.args.answers.now in
    let run = inv.0.2 ∙ stands_so (schedule_of c.args.schedule.now) c.args.limit c.loop-count.count (state c.loop-count.machine c.entry_result-returns.result answers inv.0.0) c.loop-count-test.false in
    subst (AppendsResult c.end_more.result (g.K.Sink.held c.args.out.now) (g.K.Sink.held c.end_more.new.out))
    (sym (ap (λ (n : Now). outcome_text (seen n)) run ∙ outcome_line inv.0.0 Running))
    (writes_then c.end_more.result (g.K.Sink.held c.args.out.now) (g.K.Sink.held c.loop-count.out) (g.K.Sink.held c.end_more.new.out) (calls_text inv.0.0) (last_line Running) inv.0.1 c.end_more.ensures.text)
