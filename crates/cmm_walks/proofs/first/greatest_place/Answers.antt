use Rattle.std.proofs.Common.{arith}
use Rattle.cmm_walks.proofs.Firsts.{places_kept, place_more, all_taken}
use Rattle.cmm_walks.specs.First.{place_within}
use Rattle.cmm_walks.proofs.first.greatest_place.Goals as goal

pub loop-node-preserved : goal.loop-node-preserved
loop-node-preserved c =
    places_kept c.loop-node.greatest c.max-greatest.result c.args.nodes.now c.loop-node.node-index c.node-item.result
    (omega (arith, c.max-greatest.ensures)) c.loop-node-test.true c.node-item.is c.loop-node.invariant
    (place_more c.place_of.result c.max-greatest.result (omega (arith, c.max-greatest.ensures)) c.node-item.result.step c.place_of.ensures)

pub returns : goal.returns
returns c = all_taken (λ n. place_within c.loop-node.greatest n.step) c.args.nodes.now c.loop-node.node-index c.loop-node-test.false c.loop-node.invariant
