use Rattle.std.proofs.Common.{arith, ◌∙◌}
use Rattle.std.proofs.lemmas.List.{length-set}
use Rattle.linearise.proofs.Gathering.{item_below, flag_step}
use Rattle.linearise.proofs.slots.flags.Goals as goal

pub index_mut-requires : goal.index_mut-requires
index_mut-requires c =
    let lt = item_below c.args.slots.now c.loop-slot.slot-index c.loop-slot-test.true in
    omega (arith, lt, c.requires, c.loop-slot.invariant.len)

pub loop-slot-preserved : goal.loop-slot-preserved
loop-slot-preserved c =
    let lt = item_below c.args.slots.now c.loop-slot.slot-index c.loop-slot-test.true in
    record {
      len = length-set c.loop-slot.flags.items _ _ ∙ c.loop-slot.invariant.len;
      same = flag_step c.loop-slot.flags.items c.args.slots.now c.loop-slot.slot-index c.loop-slot-test.true (omega (arith, lt, c.requires, c.loop-slot.invariant.len)) c.loop-slot.invariant.same;
    }
