use Rattle.std.proofs.Common.{sym, subst}
use Rattle.command_line.specs.Program.{IsSlotText}
use Rattle.command_line.specs.Command.{default_size}
use Rattle.command_line.specs.View.{texts}
use Rattle.command_line.specs.Values.{IsSize}
use Rattle.command_line.proofs.Gives.{sets_value, sets_bad}
use Rattle.command_line.proofs.read.size.Goals as goal

pub returns-clause-value : goal.returns-clause-value
returns-clause-value c =
    sets_value (texts c.args.others.now) c.args.slot IsSize default_size c.as_bytes.result.now c.requires.left_out (subst (IsSlotText (texts c.args.others.now) c.args.slot) (sym c.as_bytes.ensures.value) c.text_for-text.ensures) c.size.result c.ok_or.result _
    c.ok_or.ensures.value c.size.ensures

pub returns-clause-bad : goal.returns-clause-bad
returns-clause-bad c =
    sets_bad (texts c.args.others.now) c.args.slot IsSize default_size c.as_bytes.result.now c.requires.once c.requires.left_out (subst (IsSlotText (texts c.args.others.now) c.args.slot) (sym c.as_bytes.ensures.value) c.text_for-text.ensures) c.size.result c.ok_or.result _
    c.ok_or.ensures.value c.size.ensures
