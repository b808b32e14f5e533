use Rattle.std.proofs.Common.{◌≤◌, length, ap, arith, rules}
use Rattle.bs_words.specs.declared.types.Loc.TheVariants as loc
use Rattle.linscan.proofs.Keyed.{node_key, node_value, none_filled, filled_more, places_filled, places_cover}
use Rattle.linscan.proofs.places.fixed_places.Goals as goal

pub loop-node-init : goal.loop-node-init
loop-node-init c = none_filled node_key node_value loc.Unset c.args.graph.now.nodes c.new-places.result.items (search rules)

pub loop-node-preserved : goal.loop-node-preserved
loop-node-preserved c =
    filled_more node_key node_value loc.Unset c.args.graph.now.nodes c.as_slice-node-items.result.now c.loop-node.node-index c.node-item.result
    c.loop-node.places.items c.resize.new.self.items c.push.new.self.items _ c.requires c.as_slice-node-items.ensures c.loop-node-test.true
    c.node-item.is c.loop-node.places.ok.0 c.in_ok-resize.ensures.items c.in_ok-push.ensures.items c.loop-node.invariant

pub returns-clause-places : goal.returns-clause-places
returns-clause-places c =
    let same = ap length c.as_slice-node-items.ensures in
    let le : length c.args.graph.now.nodes ≤ c.loop-node.node-index = omega (arith, same) in
    places_filled c.args.graph.now c.loop-node.node-index c.loop-node.places.items c.requires le c.loop-node.invariant

pub returns-clause-has : goal.returns-clause-has
returns-clause-has c =
    let same = ap length c.as_slice-node-items.ensures in
    let le : length c.args.graph.now.nodes ≤ c.loop-node.node-index = omega (arith, same) in
    places_cover c.args.graph.now c.loop-node.node-index c.loop-node.places.items le c.loop-node.invariant
