use Rattle.std.proofs.Common.{◌≡◌, ℕ, List, subst, suc, zero, [], drop, refl, sym, ap, ◌∙◌, rules}
use Rattle.std.proofs.lemmas.Result.{IfOk-weaker}
use Rattle.bs_words.specs.declared.types.Comp.TheVariants.{Val}
use Rattle.rv_machine.specs.Allocation.{allocation_served}
use Rattle.rv_machine.specs.Hart.{Placed, register}
use Rattle.rv_machine.specs.Observation.{observed_word}
use Rattle.rv_machine.specs.Services.{Machine, Now, Over, Returned, Raised, Stopped, after_allocation, served, value_returned}
use Rattle.rv_machine.specs.declared.cause.Cause.TheVariants.{BadService}
use Rattle.mover_runtime.specs.Outcome.{ServesRun, allocation_text, calling_none, progress_text}
use Rattle.mover_runtime.specs.Written.{AppendsResult}
use Rattle.mover_runtime.specs.Schedules.{schedule_of}
use Rattle.mover_runtime.proofs.Runs.{Plans, allocation_progress}
use Rattle.mover_runtime.proofs.serving.serve.Goals as goal

pub returns-in_ok-end-in-0-clause-reported : goal.returns-in_ok-end-in-0-clause-reported
returns-in_ok-end-in-0-clause-reported g c = (
  [],
  Returned (value_returned c.args.returns c.args.machine.now),
  ap (λ (n : ℕ). served (schedule_of c.args.schedule.now).plan n (calling_none c.args.machine.now c.args.returns (drop c.args.taken.now c.args.answers.now))) (sym c.register.ensures ∙ c.in-0.is),
  c.in_ok-end-in-0.ensures.reported,
)

pub returns-in_ok-end-in-1-clause-reported : goal.returns-in_ok-end-in-1-clause-reported
returns-in_ok-end-in-1-clause-reported g c = (
  [],
  Raised (observed_word c.args.machine.now Val (register c.args.machine.now 10)),
  ap (λ (n : ℕ). served (schedule_of c.args.schedule.now).plan n (calling_none c.args.machine.now c.args.returns (drop c.args.taken.now c.args.answers.now))) (sym c.register.ensures ∙ c.in-1.is),
  c.in_ok-end-in-1.ensures.reported,
)

other : (plans : Plans) (n : ℕ) (m : Machine) → (n ≡ 0 → ⊥) → (n ≡ 1 → ⊥) → (n ≡ 2 → ⊥) → (n ≡ 3 → ⊥) → (n ≡ 4 → ⊥) → served plans n m ≡ Over m.calls (Stopped BadService)
other plans zero m a b d e f = absurd (a refl)
other plans (suc zero) m a b d e f = absurd (b refl)
other plans (suc (suc zero)) m a b d e f = absurd (d refl)
other plans (suc (suc (suc zero))) m a b d e f = absurd (e refl)
other plans (suc (suc (suc (suc zero)))) m a b d e f = absurd (f refl)
other plans (suc (suc (suc (suc (suc n))))) m a b d e f = refl

pub returns-in_ok-end-in_default-clause-reported : goal.returns-in_ok-end-in_default-clause-reported
returns-in_ok-end-in_default-clause-reported g c = (
  [],
  Stopped BadService,
  (ap (λ (n : ℕ). served (schedule_of c.args.schedule.now).plan n (calling_none c.args.machine.now c.args.returns (drop c.args.taken.now c.args.answers.now))) (sym c.register.ensures)
      ∙ other (schedule_of c.args.schedule.now).plan c.register.result (calling_none c.args.machine.now c.args.returns (drop c.args.taken.now c.args.answers.now)) (search rules) (search rules) (search rules) (search rules) (search rules)),
  c.in_ok-end-in_default.ensures.reported,
)

pub returns-in-3-clause-reported : goal.returns-in-3-clause-reported
returns-in-3-clause-reported g c =
    let schedule = schedule_of c.args.schedule.now in
    let h = c.args.machine.now in
    let answers = drop c.args.taken.now c.args.answers.now in
    let planned = c.plan-plan.ensures ∙ ap schedule.plan c.services.ensures in
    let same =
    ap (λ (p : List Placed → List ℕ). after_allocation (allocation_served p h) (calling_none h c.args.returns answers)) planned
    ∙ ap (λ (n : ℕ). served schedule.plan n (calling_none h c.args.returns answers)) (sym c.in-3.is ∙ c.register.ensures) in
    IfOk-weaker c.allocate.result _ _
    (λ end serves. subst (λ (now : Now). ServesRun end now c.allocate.new.machine c.args.returns answers) same (serves c.args.returns answers))
    c.allocate.ensures.reported

pub returns-in-3-clause-text : goal.returns-in-3-clause-text
returns-in-3-clause-text g c =
    let schedule = schedule_of c.args.schedule.now in
    let h = c.args.machine.now in
    let answers = drop c.args.taken.now c.args.answers.now in
    let planned = c.plan-plan.ensures ∙ ap schedule.plan c.services.ensures in
    subst (AppendsResult c.allocate.result (g.K.Sink.held c.args.out.now) (g.K.Sink.held c.allocate.new.out))
    (ap (λ (p : List Placed → List ℕ). allocation_text (allocation_served p h)) planned
    ∙ allocation_progress (allocation_served (schedule.plan h.services) h) h c.args.returns answers
    ∙ ap (λ (n : ℕ). progress_text (served schedule.plan n (calling_none h c.args.returns answers))) (sym c.in-3.is ∙ c.register.ensures))
    c.allocate.ensures.text
