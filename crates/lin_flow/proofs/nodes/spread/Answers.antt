use Rattle.std.proofs.Common.{◌<◌, length, ap, arith}
use Rattle.std.proofs.lemmas.List.{length_push}
use Rattle.lin_flow.specs.Search.{all_positions}
use Rattle.lin_flow.proofs.Visiting.{spreads_none, spreads_more}
use Rattle.lin_flow.proofs.nodes.spread.Goals as goal

pub loop-visit-init : goal.loop-visit-init
loop-visit-init c =
    record { spreads = spreads_none c.args.lin.now c.args.search.now c.args.nodes.now.items c.requires.ready; visited = omega arith }

pub visit-requires : goal.visit-requires
visit-requires c =
    let ready = c.loop-visit.invariant.spreads.ready in
    record {
      text = c.requires.text;
      groups = ready.groups;
      number = omega (arith, ready.fewer, c.len-number.ensures, c.len.ensures, c.if-number-len.false);
    }

pub loop-visit-preserved : goal.loop-visit-preserved
loop-visit-preserved c =
    let spreads = c.loop-visit.invariant.spreads in
    let visited = c.loop-visit.invariant.visited in
    let lt : c.len-number.result < length (all_positions c.loop-visit.search) =
    omega (arith, spreads.ready.fewer, c.len-number.ensures, c.len.ensures, c.if-number-len.false) in
    let more = ap length c.in_ok-push.ensures.items in
    let pushed = length_push c.loop-visit.nodes.items c.in_ok-node.node in
    record {
      spreads = spreads_more c.args.lin.now c.args.search.now c.loop-visit.search c.visit.new.search c.loop-visit.nodes.items
          c.push.new.self.items c.len-number.result c.in_ok-node.node spreads (omega (arith, c.len-number.ensures)) lt c.in_ok-node.ensures
          c.in_ok-push.ensures.items;
      visited = omega (arith, visited, more, pushed);
    }

pub returns-then-number-len : goal.returns-then-number-len
returns-then-number-len c =
    record { spreads = c.loop-visit.invariant.spreads; all = omega (arith, c.len-number.ensures, c.len.ensures, c.if-number-len.true) }

pub returns : goal.returns
returns c =
    let spreads = c.loop-visit.invariant.spreads in
    let visited = c.loop-visit.invariant.visited in
    let fewer = spreads.ready.fewer in
    let countable = spreads.ready.countable in
    record { spreads = spreads; all = omega (arith, c.loop-visit-test.false, visited, fewer, countable) }
