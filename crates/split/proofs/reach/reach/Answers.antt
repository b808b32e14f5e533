use Rattle.std.proofs.Common.{◌≡◌, ◌∙◌, length, arith}
use Rattle.split_rules.proofs.Whole.{fixed_colours}
use Rattle.split.specs.Writes.{listed_writes}
use Rattle.split.proofs.Reaching.{is_reaching, flow_formed}
use Rattle.split.proofs.reach.reach.Goals as goal

pub reaching-requires : goal.reaching-requires
reaching-requires c =
    let count = c.len-bound.ensures in
    let same : c.len-bound.result ≡ length (listed_writes c.args.writes.now) = omega (arith, count) in
    flow_formed c.args.mach.now c.args.writes.now (record { places = c.from_vec.result; bound = c.len-bound.result })
    c.in_ok-nodes.nodes.items c.in_ok-entry_node.field-0 (c.from_vec.ensures ∙ c.in_ok-push.ensures.items) c.in_ok-nodes.ensures
    c.in_ok-entry_node.ensures c.args.free c.requires.writes same

pub returns : goal.returns
returns c = λ formed placed.
    is_reaching c.args.mach.now c.args.writes.now (record { places = c.from_vec.result; bound = c.len-bound.result })
    c.in_ok-nodes.nodes.items c.in_ok-entry_node.field-0 (c.from_vec.ensures ∙ c.in_ok-push.ensures.items) c.in_ok-nodes.ensures
    c.in_ok-entry_node.ensures c.args.free formed c.requires.writes (fixed_colours c.args.mach.now placed)
    c.in_ok-rows.rows.rows.items c.in_ok-rows.ensures
