use Rattle.std.proofs.Common.{refl, sym, subst}
use Rattle.command_line.specs.declared.form.Slot.TheVariants.{Plain}
use Rattle.command_line.specs.Program.{IsSlotText}
use Rattle.command_line.specs.View.{texts}
use Rattle.command_line.specs.Values.{IsStage}
use Rattle.command_line.proofs.Gives.{stands_given, tells_value, tells_bad}
use Rattle.command_line.proofs.read.stage.Goals as goal

pub returns-clause-value : goal.returns-clause-value
returns-clause-value c =
    tells_value (texts c.args.others.now) Plain IsStage c.as_bytes.result.now (stands_given (texts c.args.others.now) Plain c.as_bytes.result.now refl (subst (IsSlotText (texts c.args.others.now) Plain) (sym c.as_bytes.ensures.value) c.text_for-text.ensures)) c.stage.result c.ok_or.result _
    c.ok_or.ensures.value c.stage.ensures

pub returns-clause-bad : goal.returns-clause-bad
returns-clause-bad c =
    tells_bad (texts c.args.others.now) Plain IsStage c.as_bytes.result.now c.requires.once (stands_given (texts c.args.others.now) Plain c.as_bytes.result.now refl (subst (IsSlotText (texts c.args.others.now) Plain) (sym c.as_bytes.ensures.value) c.text_for-text.ensures)) c.stage.result c.ok_or.result _
    c.ok_or.ensures.value c.stage.ensures
