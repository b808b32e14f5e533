use Rattle.std.proofs.Common.{sym, subst}
use Rattle.command_line.specs.Program.{IsSlotText}
use Rattle.command_line.specs.declared.form.Slot.TheVariants.{Jobs}
use Rattle.command_line.specs.Command.{default_jobs}
use Rattle.command_line.specs.View.{texts}
use Rattle.command_line.specs.Values.{IsCounted, most_jobs}
use Rattle.command_line.proofs.Defaults.{jobs_left_out}
use Rattle.command_line.proofs.Gives.{sets_value, sets_bad}
use Rattle.command_line.proofs.read.jobs.Goals as goal

pub returns-clause-value : goal.returns-clause-value
returns-clause-value c =
    sets_value (texts c.args.others.now) Jobs (IsCounted most_jobs) default_jobs c.as_bytes.result.now jobs_left_out (subst (IsSlotText (texts c.args.others.now) Jobs) (sym c.as_bytes.ensures.value) c.text_for-text.ensures) c.counted.result c.ok_or.result _
    c.ok_or.ensures.value c.counted.ensures

pub returns-clause-bad : goal.returns-clause-bad
returns-clause-bad c =
    sets_bad (texts c.args.others.now) Jobs (IsCounted most_jobs) default_jobs c.as_bytes.result.now c.requires.once jobs_left_out (subst (IsSlotText (texts c.args.others.now) Jobs) (sym c.as_bytes.ensures.value) c.text_for-text.ensures) c.counted.result c.ok_or.result _
    c.ok_or.ensures.value c.counted.ensures
