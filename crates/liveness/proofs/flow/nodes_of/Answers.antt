use Rattle.std.proofs.Common.{◌≡◌, ◌∷◌, ◌∙◌, ◌-◌, ap, length, drop, refl, arith}
use Rattle.mach_ir.specs.Meaning.{tries_at}
use Rattle.liveness.specs.Nodes.{register_uses}
use Rattle.liveness.proofs.Loop.{tries_begun, bare_last, nodes_begun, code_at_place, tries_more, nodes_more, nodes_done}
use Rattle.liveness.proofs.flow.nodes_of.Goals as goal

pub loop-left-init : goal.loop-left-init
loop-left-init c =
    let m = c.args.mach.now in
    let end : length c.as_slice-code.result.now ≡ length m.code = ap length c.as_slice-code.ensures in
    record {
      within = omega (arith, end);
      nodes = nodes_begun m (register_uses m) (length c.as_slice-code.result.now) c.bare_place.result c.in_ok-nodes.nodes c.push.new.self end
          (bare_last m (register_uses m) c.bare_place.result refl refl c.bare_place.ensures) c.in_ok-nodes.ensures c.in_ok-push.ensures;
      tries = tries_begun m (length c.as_slice-code.result.now) c.new-tries.result end c.new-tries.ensures;
    }

pub loop-left-preserved : goal.loop-left-preserved
loop-left-preserved c =
    let m = c.args.mach.now in
    let left = c.loop-left.left in
    let i = c.index-code-left.result in
    let within = c.loop-left.invariant.within in
    let some = c.loop-left-test.true in
    let at : drop (left - 1) m.code ≡ i ∷ drop left m.code =
    code_at_place m c.as_slice-code.result.now left i c.as_slice-code.ensures some within c.index-code-left.is in
    let tries = tries_more m left i c.loop-left.tries c.pass_tries.new.tries at c.loop-left.invariant.tries c.in_ok-pass_tries.ensures in
    let edges = c.in_ok-edges.ensures.there (drop left m.code) at (tries ∙ ap tries_at at) in
    record {
      within = omega (arith, within);
      nodes = nodes_more m (register_uses m) left i c.in_ok-node.node c.loop-left.nodes c.push-in-loop-left.new.self at
          c.loop-left.invariant.nodes (c.in_ok-node.ensures.there (drop left m.code) edges) c.in_ok-push-2.ensures;
      tries = tries;
    }

pub returns : goal.returns
returns c =
    nodes_done c.args.mach.now (register_uses c.args.mach.now) c.loop-left.left c.loop-left.nodes c.into_vec.result.items
    c.loop-left-test.false c.loop-left.invariant.nodes c.into_vec.ensures
