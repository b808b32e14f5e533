use Rattle.std.proofs.Common.{[], ap}
use Rattle.rv_machine.specs.Relocation.{Serviced}
use Rattle.rv_machine.specs.Services.{HeapOut, Stopped, after_allocation}
use Rattle.mover_runtime.specs.Outcome.{calling_none}
use Rattle.mover_runtime.proofs.serving.allocate.Goals as goal

pub returns-in_ok-end-in-HeapOut-clause-reported : goal.returns-in_ok-end-in-HeapOut-clause-reported
returns-in_ok-end-in-HeapOut-clause-reported g c = λ returns answers. (
  [],
  HeapOut,
  ap (λ (a : Serviced). after_allocation a (calling_none c.args.machine.now returns answers)) c.in-HeapOut.ensures.exact,
  c.in_ok-end-in-HeapOut.ensures.reported,
)

pub returns-in_ok-end-in-Stopped-clause-reported : goal.returns-in_ok-end-in-Stopped-clause-reported
returns-in_ok-end-in-Stopped-clause-reported g c = λ returns answers. (
  [],
  Stopped c.in-Stopped.cause,
  ap (λ (a : Serviced). after_allocation a (calling_none c.args.machine.now returns answers)) c.in-Stopped.ensures.exact,
  c.in_ok-end-in-Stopped.ensures.reported,
)
