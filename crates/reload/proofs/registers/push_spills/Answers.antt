use Rattle.std.proofs.Common.{◌∙◌, sym, arith}
use Rattle.reload.proofs.Numbers.{next_fits}
use Rattle.reload.proofs.registers.push_spills.Goals as goal

pub overflow_add-number : goal.overflow_add-number
overflow_add-number c =
    let fits =
    next_fits c.args.registers c.loop-reg.number c.args.from c.args.regs.now c.loop-reg.reg-index _ c.loop-reg-test.true
    (sym c.is_renewed.ensures ∙ c.if-is_renewed.true) c.loop-reg.invariant.number c.requires.room in
    omega (arith, fits)
