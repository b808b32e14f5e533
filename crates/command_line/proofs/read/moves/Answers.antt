use Rattle.std.proofs.Common.{sym, subst}
use Rattle.command_line.specs.Program.{IsSlotText}
use Rattle.command_line.specs.declared.form.Slot.TheVariants.{Moves}
use Rattle.command_line.specs.Command.{default_moves}
use Rattle.command_line.specs.View.{texts}
use Rattle.command_line.specs.Values.{IsMoves}
use Rattle.command_line.proofs.Defaults.{moves_left_out}
use Rattle.command_line.proofs.Gives.{sets_value, sets_bad}
use Rattle.command_line.proofs.read.moves.Goals as goal

pub returns-clause-value : goal.returns-clause-value
returns-clause-value c =
    sets_value (texts c.args.others.now) Moves IsMoves default_moves c.as_bytes.result.now moves_left_out (subst (IsSlotText (texts c.args.others.now) Moves) (sym c.as_bytes.ensures.value) c.text_for-text.ensures) c.moves.result c.ok_or.result _
    c.ok_or.ensures.value c.moves.ensures

pub returns-clause-bad : goal.returns-clause-bad
returns-clause-bad c =
    sets_bad (texts c.args.others.now) Moves IsMoves default_moves c.as_bytes.result.now c.requires.once moves_left_out (subst (IsSlotText (texts c.args.others.now) Moves) (sym c.as_bytes.ensures.value) c.text_for-text.ensures) c.moves.result c.ok_or.result _
    c.ok_or.ensures.value c.moves.ensures
