use Rattle.cse_deadcode.proofs.Noted.{notes_more}
use Rattle.cse_deadcode.proofs.times.Times.note_registers.Goals as goal

pub loop-reg-preserved : goal.loop-reg-preserved
loop-reg-preserved c =
    notes_more c.args.self.now c.loop-reg.self c.note_register.new.self c.args.time c.args.regs.now c.loop-reg.reg-index _
    c.loop-reg-test.true c.loop-reg.invariant c.in_ok-note_register.ensures
