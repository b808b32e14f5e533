use Rattle.std.proofs.Common.{ap, ◌∙◌, arith}
use Rattle.linscan.proofs.Visiting.{node_at_place, live_below, params_below, reads_below, writes_below, places_below, ranges_begun, ranges_more, ranges_all}
use Rattle.mach_laws.specs.Graph.{numbers_of_registers}
use Rattle.linscan.proofs.interval_table.ranges_of.Goals as goal

pub see_all-requires : goal.see_all-requires
see_all-requires c =
    params_below c.args.mach.now c.args.size _ c.requires.numbers c.in_ok-ranges.ensures.len c.in_ok-params.params.items c.as_slice-2.result.now
    c.as_slice-2.ensures.value (c.in_ok-params.ensures ∙ ap numbers_of_registers c.as_slice.ensures)

pub loop-place-init : goal.loop-place-init
loop-place-init c =
    ranges_begun c.args.mach.now c.args.size c.in_ok-ranges.ranges c.see_all.new.self c.in_ok-params.params.items c.as_slice-2.result.now
    c.as_slice-2.ensures.value (c.in_ok-params.ensures ∙ ap numbers_of_registers c.as_slice.ensures) c.in_ok-ranges.ensures.len
    c.in_ok-ranges.ensures.none c.see_all.ensures

pub see_node-requires-clause-numbers : goal.see_node-requires-clause-numbers
see_node-requires-clause-numbers c =
    live_below c.args.mach.now c.args.size _ c.requires.numbers c.loop-place.invariant.len c.args.live.now c.requires.live

pub see_node-requires-clause-reads : goal.see_node-requires-clause-reads
see_node-requires-clause-reads c =
    let here = node_at_place c.args.mach.now c.args.flow.now c.loop-place.place c.index-node.result.now c.requires.flow c.requires.edges
    (let len = c.len-place-end.ensures in let lt = c.loop-place-test.true in omega (arith, len, lt)) c.index-node.ensures in
    reads_below c.args.mach.now c.args.size _ c.requires.numbers c.loop-place.invariant.len c.args.flow.now c.loop-place.place here.0
    c.index-node.result.now here.1

pub see_node-requires-clause-writes : goal.see_node-requires-clause-writes
see_node-requires-clause-writes c =
    let here = node_at_place c.args.mach.now c.args.flow.now c.loop-place.place c.index-node.result.now c.requires.flow c.requires.edges
    (let len = c.len-place-end.ensures in let lt = c.loop-place-test.true in omega (arith, len, lt)) c.index-node.ensures in
    writes_below c.args.mach.now c.args.size _ c.requires.numbers c.loop-place.invariant.len c.args.flow.now c.loop-place.place here.0
    c.index-node.result.now here.1

pub see_node-requires-clause-next : goal.see_node-requires-clause-next
see_node-requires-clause-next c =
    let here = node_at_place c.args.mach.now c.args.flow.now c.loop-place.place c.index-node.result.now c.requires.flow c.requires.edges
    (let len = c.len-place-end.ensures in let lt = c.loop-place-test.true in omega (arith, len, lt)) c.index-node.ensures in
    places_below c.args.mach.now c.args.flow.now c.loop-place.place here.0 c.index-node.result.now _ c.requires.flow here.1
    c.requires.live.len

pub loop-place-preserved : goal.loop-place-preserved
loop-place-preserved c =
    let here = node_at_place c.args.mach.now c.args.flow.now c.loop-place.place c.index-node.result.now c.requires.flow c.requires.edges
    (let len = c.len-place-end.ensures in let lt = c.loop-place-test.true in omega (arith, len, lt)) c.index-node.ensures in
    ranges_more c.args.mach.now c.args.size c.loop-place.place c.args.live.now c.args.flow.now here.0 c.index-node.result.now
    c.loop-place.ranges c.see_node.new.self c.requires.live here.1 c.loop-place.invariant c.see_node.ensures

pub returns-clause-ranges : goal.returns-clause-ranges
returns-clause-ranges c =
    ranges_all c.args.mach.now c.args.size c.loop-place.place c.loop-place.ranges
    (let len = c.len-place-end.ensures in let le = c.loop-place-test.false in omega (arith, len, le)) c.loop-place.invariant
