use Rattle.mach_laws.proofs.LiveByGraph.{live_map}
use Rattle.liveness.proofs.live_map.live_flow.Goals as goal

pub returns-clause-live : goal.returns-clause-live
returns-clause-live c =
    live_map c.args.mach.now c.in_ok-flow.flow c.in_ok-flow.ensures.flow (record { before = c.in_ok-before.before })
    c.in_ok-before.ensures
