use Rattle.std.proofs.Common.{get_or, ◌<◌, length, arith, subst, sym, List}
use Rattle.std.specs.List.Sorted.{IsPermutation}
use Rattle.cmm_walks.specs.declared.labels.Seed.{Seed}
use Rattle.cmm_walks.proofs.Spreads.{filling_none, filling_step, filling_all, seed_within, lowered_spreading}
use Rattle.cmm_walks.proofs.labels.NodeLabels.fill.Goals as goal

pub loop-seed-init : goal.loop-seed-init
loop-seed-init c = filling_none c.args.nodes.now c.args.slot c.as_slice-seed-items.result.now c.args.self.now c.requires.unlabelled

pub lower-requires : goal.lower-requires
lower-requires c =
    let d : Seed = record { label = 0; place = 0 } in
    let w : (get_or c.as_slice-seed-items.result.now c.loop-seed.seed-index d).place < length c.args.nodes.now =
    seed_within c.args.nodes.now c.args.seeds.now.items c.sort_unstable_by_key.new.self.items c.as_slice-seed-items.result.now c.loop-seed.seed-index d c.requires.within c.sort_unstable_by_key.ensures.permutation c.as_slice-seed-items.ensures.value c.loop-seed-test.true in
    omega (arith, w, c.loop-seed.invariant.spreading.len)

pub settle-requires-clause-spreading : goal.settle-requires-clause-spreading
settle-requires-clause-spreading c =
    let d : Seed = record { label = 0; place = 0 } in
    let w : (get_or c.as_slice-seed-items.result.now c.loop-seed.seed-index d).place < length c.args.nodes.now =
    seed_within c.args.nodes.now c.args.seeds.now.items c.sort_unstable_by_key.new.self.items c.as_slice-seed-items.result.now c.loop-seed.seed-index d c.requires.within c.sort_unstable_by_key.ensures.permutation c.as_slice-seed-items.ensures.value c.loop-seed-test.true in
    let within : (get_or c.as_slice-seed-items.result.now c.loop-seed.seed-index d).place < length c.loop-seed.self.of.items = omega (arith, w, c.loop-seed.invariant.spreading.len) in
    lowered_spreading c.args.nodes.now c.args.slot c.loop-seed.self c.lower.new.self (get_or c.as_slice-seed-items.result.now c.loop-seed.seed-index d).place c.from.result
    within c.in_ok-lower.ensures c.loop-seed.invariant.spreading

pub loop-seed-preserved : goal.loop-seed-preserved
loop-seed-preserved c =
    let d : Seed = record { label = 0; place = 0 } in
    let w : (get_or c.as_slice-seed-items.result.now c.loop-seed.seed-index d).place < length c.args.nodes.now =
    seed_within c.args.nodes.now c.args.seeds.now.items c.sort_unstable_by_key.new.self.items c.as_slice-seed-items.result.now c.loop-seed.seed-index d c.requires.within c.sort_unstable_by_key.ensures.permutation c.as_slice-seed-items.ensures.value c.loop-seed-test.true in
    filling_step c.args.nodes.now c.args.slot c.as_slice-seed-items.result.now c.loop-seed.seed-index c.from.result d c.loop-seed.self c.lower.new.self c.settle.new.self
    c.loop-seed-test.true w c.from.ensures c.loop-seed.invariant c.in_ok-lower.ensures c.in_ok-settle.ensures

pub returns : goal.returns
returns c =
    let P : List Seed → Type 0 = λ l. IsPermutation c.args.seeds.now.items l in
    filling_all c.args.nodes.now c.args.slot c.args.seeds.now.items c.as_slice-seed-items.result.now c.loop-seed.seed-index c.loop-seed.self c.loop-seed-test.false
    (subst P (sym c.as_slice-seed-items.ensures.value) c.sort_unstable_by_key.ensures.permutation) c.loop-seed.invariant
