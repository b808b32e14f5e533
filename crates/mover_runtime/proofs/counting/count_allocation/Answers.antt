use Rattle.std.proofs.Common.{subst}
use Rattle.rv_machine.specs.Hart.{Hart}
use Rattle.rv_machine.specs.Relocation.{Serviced}
use Rattle.alloc_service.specs.Plan.{Serves, plan_of}
use Rattle.mover_runtime.proofs.Retiring.{allocated_counted, allocated-most}
use Rattle.mover_runtime.proofs.counting.count_allocation.Goals as goal

pub returns : goal.returns
returns c =
    let h : Hart = c.args.machine.now in
    let exact = subst (λ (a : Serviced). Serves c.serve_allocation.result a c.serve_allocation.new.machine)
    (allocated_counted (plan_of c.args.plan) h c.requires.room c.requires.services) c.serve_allocation.ensures.exact in
    record { exact = exact; retired = allocated-most (plan_of c.args.plan) c.serve_allocation.result h c.serve_allocation.new.machine exact c.serve_allocation.ensures.kept }
