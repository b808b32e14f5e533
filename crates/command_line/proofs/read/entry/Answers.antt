use Rattle.std.proofs.Common.{refl, sym, subst}
use Rattle.command_line.specs.declared.form.Slot.TheVariants.{Plain}
use Rattle.command_line.specs.Program.{IsSlotText}
use Rattle.command_line.specs.View.{texts}
use Rattle.bs_words.specs.Symbol.{IsSymbol}
use Rattle.command_line.proofs.Gives.{stands_given, plain_nothing}
use Rattle.command_line.proofs.read.entry.Goals as goal

pub returns-clause-bad : goal.returns-clause-bad
returns-clause-bad c = λ e.
    plain_nothing (texts c.args.others.now) c.as_bytes.result.now IsSymbol c.requires.once
    (stands_given (texts c.args.others.now) Plain c.as_bytes.result.now refl (subst (IsSlotText (texts c.args.others.now) Plain) (sym c.as_bytes.ensures.value) c.text_for.ensures))
    (c.name.ensures.bad e)
