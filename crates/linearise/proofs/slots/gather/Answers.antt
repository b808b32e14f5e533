use Rattle.linearise.proofs.Gathering.{gathered_first, gathered_step}
use Rattle.linearise.proofs.slots.gather.Goals as goal

pub loop-instr-init : goal.loop-instr-init
loop-instr-init c = gathered_first c.args.mach.now.params c.as_slice.result.now c.args.mach.now.code c.new-slots.result.items c.gather_regs.new.slots.items c.new-slots.ensures.items c.as_slice.ensures c.in_ok-gather_regs.ensures

pub loop-instr-preserved : goal.loop-instr-preserved
loop-instr-preserved c =
    gathered_step c.args.mach.now.code c.as_slice-instr-items.result.now c.loop-instr.instr-index c.instr-item.result c.as_slice-in-loop-instr.result.now c.as_slice-in-loop-instr-2.result.now
    c.loop-instr.slots.items c.gather_regs-in-loop-instr.new.slots.items c.gather_regs-in-loop-instr-2.new.slots.items _ c.as_slice-instr-items.ensures c.loop-instr-test.true c.instr-item.is
    c.as_slice-in-loop-instr.ensures c.as_slice-in-loop-instr-2.ensures c.in_ok-gather_regs-2.ensures c.in_ok-gather_regs-3.ensures c.loop-instr.invariant
