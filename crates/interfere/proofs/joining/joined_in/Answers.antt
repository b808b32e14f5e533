use Rattle.std.proofs.Common.{◌≡◌, suc, None, drop, sym, subst, All, ◌<◌, true}
use Rattle.bs_bits.specs.Set.{has}
use Rattle.bs_words.specs.Contents.{contents}
use Rattle.mach_ir.specs.declared.reg.Reg.{Reg}
use Rattle.mach_ir.specs.Walks.{is_param}
use Rattle.interfere.specs.Pairs.{AddsPairs, ForOne, MeetsSet}
use Rattle.interfere.proofs.Entering.{regs_small}
use Rattle.interfere.proofs.Meetings.{live_below, writes_below, joined_begun, joined_more, joined_all}
use Rattle.interfere.proofs.Nodes.{node_read, places_small, within}
use Rattle.interfere.proofs.joining.joined_in.Goals as goal

pub join_params-requires-clause-params : goal.join_params-requires-clause-params
join_params-requires-clause-params c =
    regs_small c.args.size _ c.args.mach.now.params c.as_slice-params.result.now c.as_slice-params.ensures
    (λ r a. c.requires.numbers r (is_param a)) c.in_ok-joined.ensures.len

pub join_params-requires-clause-set : goal.join_params-requires-clause-set
join_params-requires-clause-set c = λ k h.
    subst (λ n. k < n) (sym c.in_ok-joined.ensures.len)
    (live_below c.args.mach.now c.args.size c.requires.numbers c.args.live.now c.requires.live 0 k
    (subst (λ s. has s k ≡ true) c.at.ensures h))

pub loop-place-init : goal.loop-place-init
loop-place-init c =
    joined_begun c.args.mach.now c.args.size c.args.live.now c.at.result.now c.in_ok-joined.joined c.join_params.new.joined c.requires.live
    c.at.ensures c.in_ok-joined.ensures.len c.in_ok-joined.ensures.none
    (subst (λ rs. AddsPairs c.in_ok-joined.joined c.join_params.new.joined (ForOne (λ (r : Reg). MeetsSet None c.at.result.now r.number) rs))
    c.as_slice-params.ensures c.in_ok-join_params.ensures)

pub join_writes-requires-clause-numbers : goal.join_writes-requires-clause-numbers
join_writes-requires-clause-numbers c =
    let m = c.args.mach.now in
    let p = c.loop-place.place in
    let i = c.instr-item.result in
    let here = node_read m c.args.flow.now p c.as_slice-instr-items.result.now i c.index-node.result.now c.requires.flow
    c.requires.formed c.as_slice-instr-items.ensures c.loop-place-test.true c.instr-item.is c.index-node.ensures in
    subst (λ n. All (λ k. k < n) (contents c.index-node.result.now.writes)) (sym c.loop-place.invariant.len)
    (writes_below m c.args.size c.requires.numbers p i (drop (suc p) m.code) (contents c.index-node.result.now.writes) here.at here.writes)

pub join_writes-requires-clause-live : goal.join_writes-requires-clause-live
join_writes-requires-clause-live c = λ p k h.
    subst (λ n. k < n) (sym c.loop-place.invariant.len)
    (live_below c.args.mach.now c.args.size c.requires.numbers c.args.live.now c.requires.live p k h)

pub join_writes-requires-clause-places : goal.join_writes-requires-clause-places
join_writes-requires-clause-places c =
    let m = c.args.mach.now in
    let p = c.loop-place.place in
    let i = c.instr-item.result in
    let here = node_read m c.args.flow.now p c.as_slice-instr-items.result.now i c.index-node.result.now c.requires.flow
    c.requires.formed c.as_slice-instr-items.ensures c.loop-place-test.true c.instr-item.is c.index-node.ensures in
    places_small m c.args.flow.now p i c.index-node.result.now _ c.requires.flow here c.requires.live.len

pub loop-place-preserved : goal.loop-place-preserved
loop-place-preserved c =
    let m = c.args.mach.now in
    let p = c.loop-place.place in
    let i = c.instr-item.result in
    let here = node_read m c.args.flow.now p c.as_slice-instr-items.result.now i c.index-node.result.now c.requires.flow
    c.requires.formed c.as_slice-instr-items.ensures c.loop-place-test.true c.instr-item.is c.index-node.ensures in
    joined_more m c.args.size p i (drop (suc p) m.code) c.args.live.now (contents c.index-node.result.now.writes)
    (contents c.index-node.result.now.next) c.move_of.result c.loop-place.joined c.join_writes.new.joined c.requires.live here.at here.writes
    here.next c.move_of.ensures c.loop-place.invariant c.in_ok-join_writes.ensures

pub returns-clause-pairs : goal.returns-clause-pairs
returns-clause-pairs c = joined_all c.args.mach.now c.args.size c.loop-place.place c.loop-place.joined
    (within c.args.mach.now c.as_slice-instr-items.result.now c.loop-place.place c.as_slice-instr-items.ensures c.loop-place-test.false)
    c.loop-place.invariant
