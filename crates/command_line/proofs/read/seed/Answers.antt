use Rattle.std.proofs.Common.{refl, sym, subst}
use Rattle.command_line.specs.declared.form.Slot.TheVariants.{Seed}
use Rattle.command_line.specs.Program.{IsSlotText}
use Rattle.command_line.specs.View.{texts}
use Rattle.command_line.specs.Values.{IsSeed}
use Rattle.command_line.proofs.Gives.{stands_given, tells_value, tells_bad}
use Rattle.command_line.proofs.read.seed.Goals as goal

pub returns-clause-value : goal.returns-clause-value
returns-clause-value c =
    tells_value (texts c.args.others.now) Seed IsSeed c.as_bytes.result.now (stands_given (texts c.args.others.now) Seed c.as_bytes.result.now refl (subst (IsSlotText (texts c.args.others.now) Seed) (sym c.as_bytes.ensures.value) c.text_for-text.ensures)) c.seed.result c.ok_or.result _
    c.ok_or.ensures.value c.seed.ensures

pub returns-clause-bad : goal.returns-clause-bad
returns-clause-bad c =
    tells_bad (texts c.args.others.now) Seed IsSeed c.as_bytes.result.now c.requires.once (stands_given (texts c.args.others.now) Seed c.as_bytes.result.now refl (subst (IsSlotText (texts c.args.others.now) Seed) (sym c.as_bytes.ensures.value) c.text_for-text.ensures)) c.seed.result c.ok_or.result _
    c.ok_or.ensures.value c.seed.ensures
