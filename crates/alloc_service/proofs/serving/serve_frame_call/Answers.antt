use Rattle.std.proofs.Common.{ℕ, ap, sym, ◌∙◌}
use Rattle.rv_machine.specs.Hart.{register}
use Rattle.rv_machine.specs.Observation.{blocks_at}
use Rattle.rv_machine.specs.Relocation.{Goes, emptied, with_blocks}
use Rattle.alloc_service.specs.Plan.{plan_of, services_counted, with_counts}
use Rattle.alloc_service.proofs.Served.{emptied_so, no_heap, refused}
use Rattle.alloc_service.proofs.serving.serve_frame_call.Goals as goal

pub returns-in-HeapOut-clause-exact : goal.returns-in-HeapOut-clause-exact
returns-in-HeapOut-clause-exact c =
    let h = c.args.machine.now in
    let plan = plan_of c.args.plan in
    no_heap services_counted services_counted (λ g. Goes (emptied 0 g)) (with_blocks plan h (blocks_at h (register h 26)))
    (ap (λ (from : ℕ). with_counts services_counted (with_blocks plan h (blocks_at h from))) (sym c.register-from.ensures) ∙ c.in-HeapOut.ensures.exact)

pub returns-in-Stopped-clause-exact : goal.returns-in-Stopped-clause-exact
returns-in-Stopped-clause-exact c =
    let h = c.args.machine.now in
    let plan = plan_of c.args.plan in
    refused services_counted services_counted (λ g. Goes (emptied 0 g)) (with_blocks plan h (blocks_at h (register h 26))) c.in-Stopped.cause
    (ap (λ (from : ℕ). with_counts services_counted (with_blocks plan h (blocks_at h from))) (sym c.register-from.ensures) ∙ c.in-Stopped.ensures.exact)

pub returns-in-Goes-clause-exact : goal.returns-in-Goes-clause-exact
returns-in-Goes-clause-exact c =
    let h = c.args.machine.now in
    let plan = plan_of c.args.plan in
    emptied_so (with_blocks plan h (blocks_at h (register h 26))) c.relocate.new.machine
    (ap (λ (from : ℕ). with_counts services_counted (with_blocks plan h (blocks_at h from))) (sym c.register-from.ensures) ∙ c.in-Goes.ensures.exact)
    ∙ ap Goes (sym c.empty.ensures)
