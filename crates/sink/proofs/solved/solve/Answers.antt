use Rattle.std.proofs.Common.{◌∙◌}
use Rattle.sink.proofs.StaleFlow.{are_stale, stale_formed}
use Rattle.sink.proofs.FreshFlow.{are_fresh, fresh_formed}
use Rattle.sink.proofs.Nodes.{turned_nodes, stale_some}
use Rattle.sink.proofs.solved.solve.Goals as goal

pub reaching-requires : goal.reaching-requires
reaching-requires c =
    stale_formed c.args.mach.now c.args.live.now c.requires.live c.in_ok-graph.graph c.in_ok-graph.ensures.nodes c.args.flow c.requires.flow
    c.requires.formed c.in_ok-graph.ensures.bound

pub fresh_flow-requires : goal.fresh_flow-requires
fresh_flow-requires c = stale_some c.args.mach.now c.args.live.now.before.rows.items c.in_ok-graph.ensures.nodes

pub reaching-requires-2 : goal.reaching-requires-2
reaching-requires-2 c =
    let nodes = turned_nodes c.args.mach.now c.args.live.now.before.rows.items c.in_ok-graph.ensures.nodes c.in_ok-graph-2.ensures.places in
    fresh_formed c.args.mach.now c.args.live.now c.requires.live c.in_ok-graph-2.graph nodes c.args.flow c.requires.flow c.requires.formed
    (c.in_ok-graph-2.ensures.bound ∙ c.in_ok-graph.ensures.bound)

pub returns : goal.returns
returns c =
    let m = c.args.mach.now in
    let live = c.args.live.now in
    let nodes = turned_nodes m live.before.rows.items c.in_ok-graph.ensures.nodes c.in_ok-graph-2.ensures.places in
    let bound = c.in_ok-graph-2.ensures.bound ∙ c.in_ok-graph.ensures.bound in
    record {
      bound_is = bound;
      formed = fresh_formed m live c.requires.live c.in_ok-graph-2.graph nodes c.args.flow c.requires.flow c.requires.formed bound;
      nodes = nodes;
      fresh = are_fresh m live c.requires.live c.in_ok-graph-2.graph nodes c.in_ok-fresh.fresh.rows.items c.in_ok-fresh.ensures;
      stale = are_stale m live c.requires.live c.in_ok-graph.graph c.in_ok-graph.ensures.nodes c.in_ok-stale.stale.rows.items c.in_ok-stale.ensures;
    }
