use Rattle.interfere.proofs.Listed.{by_number, is_graph}
use Rattle.interfere.proofs.interfering.graph.Goals as goal

pub nodes-requires : goal.nodes-requires
nodes-requires c = by_number c.args.mach.now c.in_ok-tables.tables c.in_ok-tables.ensures

pub returns : goal.returns
returns c =
    is_graph c.args.mach.now c.in_ok-tables.tables (record { nodes = c.from_vec.result }) c.in_ok-nodes.nodes.items c.requires.formed
    c.in_ok-tables.ensures c.in_ok-nodes.ensures c.from_vec.ensures
