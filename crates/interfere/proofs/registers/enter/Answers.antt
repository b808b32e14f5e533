use Rattle.interfere.proofs.Entering.{enter_more}
use Rattle.interfere.proofs.registers.enter.Goals as goal

pub loop-reg-preserved : goal.loop-reg-preserved
loop-reg-preserved c =
    enter_more c.args.regs.now c.loop-reg.reg-index _ c.args.table.now.items c.loop-reg.table.items c.loop-reg-test.true
    (c.requires c.loop-reg.reg-index _ c.loop-reg-test.true) c.loop-reg.invariant
