use Rattle.std.proofs.Common.{[], drop, ap, sym, ◌∙◌}
use Rattle.rv_machine.specs.Hart.{Hart, Next, hart}
use Rattle.rv_machine.specs.Run.{after_next}
use Rattle.rv_machine.specs.Services.{StackOut, Stopped}
use Rattle.mover_runtime.specs.Outcome.{calling_none}
use Rattle.mover_runtime.specs.Schedules.{schedule_of}
use Rattle.mover_runtime.proofs.run.one.Goals as goal

pub returns-in_ok-end-in-StackOut-clause-reported : goal.returns-in_ok-end-in-StackOut-clause-reported
returns-in_ok-end-in-StackOut-clause-reported g c = (
  [],
  StackOut,
  (ap (λ (h : Hart). after_next (schedule_of c.args.schedule.now) (hart h) (calling_none c.args.machine.now c.args.returns (drop c.args.taken.now c.args.answers.now))) (sym c.ask_if.ensures.exact)
      ∙ ap (λ (nx : Next). after_next (schedule_of c.args.schedule.now) nx (calling_none c.args.machine.now c.args.returns (drop c.args.taken.now c.args.answers.now))) (sym c.in-StackOut.ensures.exact)),
  c.in_ok-end-in-StackOut.ensures.reported,
)

pub returns-in_ok-end-in-Stopped-clause-reported : goal.returns-in_ok-end-in-Stopped-clause-reported
returns-in_ok-end-in-Stopped-clause-reported g c = (
  [],
  Stopped c.in-Stopped.cause,
  (ap (λ (h : Hart). after_next (schedule_of c.args.schedule.now) (hart h) (calling_none c.args.machine.now c.args.returns (drop c.args.taken.now c.args.answers.now))) (sym c.ask_if.ensures.exact)
      ∙ ap (λ (nx : Next). after_next (schedule_of c.args.schedule.now) nx (calling_none c.args.machine.now c.args.returns (drop c.args.taken.now c.args.answers.now))) (sym c.in-Stopped.ensures.exact)),
  c.in_ok-end-in-Stopped.ensures.reported,
)
