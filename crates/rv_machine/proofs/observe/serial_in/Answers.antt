use Rattle.std.proofs.Common.{◌∙◌, sym}
use Rattle.rv_machine.proofs.Young.{serial_here, serial_later, no_serial}
use Rattle.rv_machine.proofs.observe.serial_in.Goals as goal

pub returns-then-start-address : goal.returns-then-start-address
returns-then-start-address c =
    sym (c.loop-serial.invariant ∙ serial_here c.args.blocks.now c.loop-serial.serial c.index-blocks-serial.result c.args.address
    c.loop-serial-test.true c.index-blocks-serial.is (sym c.start.ensures ∙ c.if-start-address.true))

pub loop-serial-preserved : goal.loop-serial-preserved
loop-serial-preserved c =
    c.loop-serial.invariant ∙ serial_later c.args.blocks.now c.loop-serial.serial c.index-blocks-serial.result c.args.address
    c.loop-serial-test.true c.index-blocks-serial.is (λ e. c.if-start-address.false (c.start.ensures ∙ e))

pub returns : goal.returns
returns c = sym (c.loop-serial.invariant ∙ no_serial c.args.blocks.now c.loop-serial.serial c.loop-serial.serial c.args.address c.loop-serial-test.false)
