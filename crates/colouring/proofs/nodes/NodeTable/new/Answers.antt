use Rattle.std.proofs.Common.{◌≡◌, ℕ, length, ap, subst, arith}
use Rattle.colouring.proofs.Indexed.{IsIndexed, all_indexed}
use Rattle.colouring.proofs.nodes.NodeTable.new.Goals as goal

pub returns : goal.returns
returns c =
    let same = ap length c.as_slice-node-items.ensures in
    let whole : c.loop-node.node-index ≡ length c.args.graph.now.nodes = omega (arith, same) in
    all_indexed c.args.graph.now.nodes c.loop-node.indices.items c.requires
    (subst (λ (i : ℕ). IsIndexed c.args.graph.now.nodes i c.loop-node.indices.items) whole
    c.loop-node.invariant.indexed)
