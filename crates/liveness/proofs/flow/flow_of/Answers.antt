use Rattle.std.proofs.Common.{◌<◌, suc, length, sym, subst, arith}
use Rattle.mach_ir.specs.Sizes.{number_limit}
use Rattle.liveness.specs.Nodes.{AreLivenessNodes, register_uses}
use Rattle.liveness.proofs.Counting.{places_fit}
use Rattle.liveness.proofs.Graph.{are_flow, is_formed}
use Rattle.liveness.proofs.flow.flow_of.Goals as goal

pub returns-clause-flow : goal.returns-clause-flow
returns-clause-flow c =
    are_flow c.args.mach.now (record { places = c.from_vec.result; bound = c.first_free-bound.result })
    (subst (AreLivenessNodes c.args.mach.now (register_uses c.args.mach.now) c.args.mach.now.code) (sym c.from_vec.ensures)
    c.in_ok-nodes.ensures)

pub returns-clause-formed : goal.returns-clause-formed
returns-clause-formed c =
    is_formed c.args.mach.now (record { places = c.from_vec.result; bound = c.first_free-bound.result })
    (subst (AreLivenessNodes c.args.mach.now (register_uses c.args.mach.now) c.args.mach.now.code) (sym c.from_vec.ensures)
    c.in_ok-nodes.ensures) c.first_free-bound.ensures.above

pub of_function-requires : goal.of_function-requires
of_function-requires c =
    let fits : suc (length c.args.mach.now.code) < number_limit = places_fit c.args.mach.now c.requires.countable in omega (arith, fits)

pub nodes_of-requires-clause-fits : goal.nodes_of-requires-clause-fits
nodes_of-requires-clause-fits c = places_fit c.args.mach.now c.requires.countable
