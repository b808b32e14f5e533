use Rattle.linscan.proofs.Starting.{is_scan_order, are_nodes}
use Rattle.linscan.proofs.order.scan_order.Goals as goal

pub returns-clause-order : goal.returns-clause-order
returns-clause-order c =
    is_scan_order c.args.graph.now c.args.intervals.now c.in_ok-ranges.ranges c.in_ok-opens.opens.items c.sort_by_start.new.opens.items
    c.requires.scannable c.in_ok-ranges.ensures c.in_ok-opens.ensures c.in_ok-sort_by_start.ensures.permutation
    c.in_ok-sort_by_start.ensures.sorted c.in_ok-sort_by_start.ensures.stable

pub returns-clause-nodes : goal.returns-clause-nodes
returns-clause-nodes c =
    are_nodes c.args.graph.now c.args.intervals.now c.in_ok-ranges.ranges c.in_ok-opens.opens.items c.sort_by_start.new.opens.items
    c.requires.scannable c.in_ok-ranges.ensures c.in_ok-opens.ensures c.in_ok-sort_by_start.ensures.permutation
