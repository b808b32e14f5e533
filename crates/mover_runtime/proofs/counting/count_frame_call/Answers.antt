use Rattle.std.proofs.Common.{subst}
use Rattle.rv_machine.specs.Relocation.{Serviced}
use Rattle.alloc_service.specs.Plan.{Serves, plan_of}
use Rattle.mover_runtime.proofs.Retiring.{collected_counted, collected-none}
use Rattle.mover_runtime.proofs.counting.count_frame_call.Goals as goal

pub returns-clause-exact : goal.returns-clause-exact
returns-clause-exact c =
    subst (λ (a : Serviced). Serves c.serve_frame_call.result a c.serve_frame_call.new.machine)
    (collected_counted (plan_of c.args.plan) c.args.machine.now c.requires.services) c.serve_frame_call.ensures.exact

pub returns-clause-retired : goal.returns-clause-retired
returns-clause-retired c =
    collected-none (plan_of c.args.plan) c.serve_frame_call.result c.args.machine.now c.serve_frame_call.new.machine
    (subst (λ (a : Serviced). Serves c.serve_frame_call.result a c.serve_frame_call.new.machine)
    (collected_counted (plan_of c.args.plan) c.args.machine.now c.requires.services) c.serve_frame_call.ensures.exact)
    c.serve_frame_call.ensures.kept
