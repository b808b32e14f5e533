use Rattle.std.proofs.Common.{◌≤◌, List, length, sym, ap, subst, ◌∙◌, arith, Bor}
use Rattle.std.proofs.lemmas.List.{length-set}
use Rattle.bs_words.specs.declared.types.Loc.{Loc}
use Rattle.mach_ir.specs.declared.graph.Node.{Node}
use Rattle.colouring.specs.Chosen.{fixed, chosen_location, greedily_coloured, IsOrder}
use Rattle.colouring.specs.Tables.{places_by, referred}
use Rattle.colouring.proofs.Fold.{is_safe, no_needless_slot}
use Rattle.colouring.proofs.Turn.{is_within, goes_on, is_coloured}
use Rattle.colouring.proofs.choosing.colour.Goals as goal

pub index_mut-requires : goal.index_mut-requires
index_mut-requires c =
    let ordered = subst (λ (l : List (Bor Node)). IsOrder c.args.fresh c.args.graph.now (referred l))
    (sym c.deref-node-items.ensures.value) c.in_ok-order.ensures in
    let within = is_within c.args.graph.now c.in_ok-table.table.indices.items c.deref-node-items.result.now
    c.loop-node.node-index c.node-item.result
    c.in_ok-table.ensures ordered c.loop-node-test.true c.node-item.is in
    let len = c.loop-node.invariant.len in
    omega (arith, within, len)

pub loop-node-preserved : goal.loop-node-preserved
loop-node-preserved c =
    let ordered = subst (λ (l : List (Bor Node)). IsOrder c.args.fresh c.args.graph.now (referred l))
    (sym c.deref-node-items.ensures.value) c.in_ok-order.ensures in
    let within = is_within c.args.graph.now c.in_ok-table.table.indices.items c.deref-node-items.result.now
    c.loop-node.node-index c.node-item.result
    c.in_ok-table.ensures ordered c.loop-node-test.true c.node-item.is in
    let len = c.loop-node.invariant.len in
    record {
      on = goes_on c.args.graph.now c.loop-node.places.items c.deref-node-items.result.now c.loop-node.node-index
          c.node-item.result c.choose-place.result
          (greedily_coloured c.args.graph.now (fixed c.args.graph.now) (referred c.deref-node-items.result.now))
          c.loop-node-test.true c.node-item.is (omega (arith, within, len))
          (c.choose-place.ensures ∙
          ap (λ (l : List Loc). chosen_location c.args.graph.now (places_by l) c.node-item.result.now)
          c.as_slice-in-loop-node.ensures.value)
          c.loop-node.invariant.on;
      len = length-set _ _ _ ∙ len;
    }

pub returns-clause-safe : goal.returns-clause-safe
returns-clause-safe c =
    let ordered = subst (λ (l : List (Bor Node)). IsOrder c.args.fresh c.args.graph.now (referred l))
    (sym c.deref-node-items.ensures.value) c.in_ok-order.ensures in
    let all : length c.deref-node-items.result.now ≤ c.loop-node.node-index = omega arith in
    is_safe c.args.graph.now c.requires
    (is_coloured c.args.graph.now c.loop-node.places.items c.deref-node-items.result.now c.loop-node.node-index
    (record { places = c.from_vec.result })
    ordered all c.from_vec.ensures c.loop-node.invariant.on)

pub returns-clause-full : goal.returns-clause-full
returns-clause-full c =
    let ordered = subst (λ (l : List (Bor Node)). IsOrder c.args.fresh c.args.graph.now (referred l))
    (sym c.deref-node-items.ensures.value) c.in_ok-order.ensures in
    let all : length c.deref-node-items.result.now ≤ c.loop-node.node-index = omega arith in
    no_needless_slot c.args.graph.now c.requires
    (is_coloured c.args.graph.now c.loop-node.places.items c.deref-node-items.result.now c.loop-node.node-index
    (record { places = c.from_vec.result })
    ordered all c.from_vec.ensures c.loop-node.invariant.on)
