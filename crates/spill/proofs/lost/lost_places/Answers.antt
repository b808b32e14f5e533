use Rattle.std.proofs.Common.{◌≡◌, ◌∷◌, ◌-◌, sym, ap, subst, length, drop, arith}
use Rattle.mach_ir.specs.declared.mach.Instr.{Instr}
use Rattle.liveness.proofs.Loop.{code_at_place}
use Rattle.spill.specs.Graphs.{IsLostPlace}
use Rattle.spill.proofs.Loops.{lost_node_is, lost_begun, lost_more, lost_done}
use Rattle.spill.proofs.lost.lost_places.Goals as goal

pub loop-left-init : goal.loop-left-init
loop-left-init c =
    let m = c.args.mach.now in
    let end : length c.as_slice-code.result.now ≡ length m.code = ap length c.as_slice-code.ensures in
    record {
      within = omega (arith, end);
      nodes = lost_begun m c.args.live.now.before.rows.items c.args.flow.now.bound (length c.as_slice-code.result.now) c.bare_place.result
          c.in_ok-nodes.nodes c.push.new.self end c.bare_place.ensures c.in_ok-nodes.ensures c.in_ok-push.ensures;
    }

pub loop-left-preserved : goal.loop-left-preserved
loop-left-preserved c =
    let m = c.args.mach.now in
    let rows = c.args.live.now.before.rows.items in
    let left = c.loop-left.left in
    let i = c.index-code-left.result in
    let within = c.loop-left.invariant.within in
    let some = c.loop-left-test.true in
    let at : drop (left - 1) m.code ≡ i ∷ drop left m.code =
    code_at_place m c.as_slice-code.result.now left i c.as_slice-code.ensures some within c.index-code-left.is in
    record {
      within = omega (arith, within);
      nodes = lost_more m rows c.args.flow.now.bound left i c.in_ok-node.node c.loop-left.nodes c.push-in-loop-left.new.self at
          c.loop-left.invariant.nodes
          (lost_node_is m c.args.flow.now c.requires left i c.index.result.now some within at c.index.ensures rows c.in_ok-node.node
          (subst (λ (i : Instr). IsLostPlace rows left c.args.flow.now.bound i.op c.index.result.now c.in_ok-node.node)
          (sym c.index-code-left.is) c.in_ok-node.ensures))
          c.in_ok-push-2.ensures;
    }

pub returns : goal.returns
returns c =
    lost_done c.args.mach.now c.args.live.now.before.rows.items c.args.flow.now.bound c.loop-left.left c.loop-left.nodes
    c.into_vec.result.items c.loop-left-test.false c.loop-left.invariant.nodes c.into_vec.ensures
