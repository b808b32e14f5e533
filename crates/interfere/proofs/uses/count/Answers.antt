use Rattle.std.proofs.Common.{arith}
use Rattle.interfere.proofs.Counting.{one_fits}
use Rattle.interfere.proofs.uses.count.Goals as goal

pub overflow_add-index_mut : goal.overflow_add-index_mut
overflow_add-index_mut c =
    let fits =
    one_fits c.loop-reg.uses.items c.args.uses.now.items c.args.regs.now c.loop-reg.reg-index _ c.index_mut.result.now c.loop-reg-test.true
    c.loop-reg.invariant.len (c.requires.numbers c.loop-reg.reg-index _ c.loop-reg-test.true) c.index_mut.ensures.value
    c.loop-reg.invariant.more c.requires.countable in
    omega (arith, fits)
