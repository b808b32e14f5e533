use Rattle.std.proofs.Common.{◌≡◌, ◌∷◌, ◌-◌, ◌∙◌, List, sym, ap, subst, length, drop, arith}
use Rattle.mach_ir.specs.declared.reg.Reg.{Reg}
use Rattle.mach_ir.specs.declared.mach.Instr.{Instr}
use Rattle.liveness.proofs.Loop.{code_at_place, nodes_begun, nodes_more, nodes_done}
use Rattle.spill.specs.Graphs.{wanted_uses, IsWantedPlace}
use Rattle.spill.proofs.Loops.{wanted_node_is, bare_wanted}
use Rattle.spill.proofs.wanted.wanted_places.Goals as goal

pub loop-left-init : goal.loop-left-init
loop-left-init c =
    let m = c.args.mach.now in
    let end : length c.as_slice-code.result.now ≡ length m.code = ap length c.as_slice-code.ensures in
    record {
      within = omega (arith, end);
      nodes = nodes_begun m (wanted_uses m c.args.lost.now.rows.items) (length c.as_slice-code.result.now) c.bare_place.result
          c.in_ok-nodes.nodes c.push.new.self end (bare_wanted m c.args.lost.now.rows.items c.bare_place.result c.bare_place.ensures) c.in_ok-nodes.ensures c.in_ok-push.ensures;
    }

pub loop-left-preserved : goal.loop-left-preserved
loop-left-preserved c =
    let m = c.args.mach.now in
    let lost = c.args.lost.now.rows.items in
    let left = c.loop-left.left in
    let i = c.index-code-left.result in
    let within = c.loop-left.invariant.within in
    let some = c.loop-left-test.true in
    let at : drop (left - 1) m.code ≡ i ∷ drop left m.code =
    code_at_place m c.as_slice-code.result.now left i c.as_slice-code.ensures some within c.index-code-left.is in
    let args : c.as_slice-args.result.now ≡ i.args = c.as_slice-args.ensures ∙ ap (λ (i : Instr). i.args) (sym c.index-code-left.is) in
    record {
      within = omega (arith, within);
      nodes = nodes_more m (wanted_uses m lost) left i c.in_ok-node.node c.loop-left.nodes c.push-in-loop-left.new.self at
          c.loop-left.invariant.nodes
          (wanted_node_is m c.args.flow.now c.requires left i c.index.result.now some within at c.index.ensures lost c.in_ok-node.node
          (subst (λ (rs : List Reg). IsWantedPlace lost (left - 1) rs c.index.result.now c.in_ok-node.node) args c.in_ok-node.ensures))
          c.in_ok-push-2.ensures;
    }

pub returns : goal.returns
returns c =
    nodes_done c.args.mach.now (wanted_uses c.args.mach.now c.args.lost.now.rows.items) c.loop-left.left c.loop-left.nodes
    c.into_vec.result.items c.loop-left-test.false c.loop-left.invariant.nodes c.into_vec.ensures
