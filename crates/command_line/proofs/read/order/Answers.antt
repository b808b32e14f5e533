use Rattle.std.proofs.Common.{sym, subst}
use Rattle.choices.specs.Defaults.{defaults}
use Rattle.command_line.specs.Program.{IsSlotText}
use Rattle.command_line.specs.declared.form.Slot.TheVariants.{Schedule}
use Rattle.command_line.specs.View.{texts}
use Rattle.command_line.specs.Values.{IsOrder}
use Rattle.command_line.proofs.Defaults.{order_left_out}
use Rattle.command_line.proofs.Gives.{sets_value, sets_bad}
use Rattle.command_line.proofs.read.order.Goals as goal

pub returns-clause-value : goal.returns-clause-value
returns-clause-value c =
    sets_value (texts c.args.others.now) Schedule IsOrder (defaults).order c.as_bytes.result.now order_left_out (subst (IsSlotText (texts c.args.others.now) Schedule) (sym c.as_bytes.ensures.value) c.text_for-text.ensures) c.order.result c.ok_or.result _
    c.ok_or.ensures.value c.order.ensures

pub returns-clause-bad : goal.returns-clause-bad
returns-clause-bad c =
    sets_bad (texts c.args.others.now) Schedule IsOrder (defaults).order c.as_bytes.result.now c.requires.once order_left_out (subst (IsSlotText (texts c.args.others.now) Schedule) (sym c.as_bytes.ensures.value) c.text_for-text.ensures) c.order.result c.ok_or.result _
    c.ok_or.ensures.value c.order.ensures
