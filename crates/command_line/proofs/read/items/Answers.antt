use Rattle.std.proofs.Common.{[], sym, subst}
use Rattle.bs_words.specs.Contents.{contents}
use Rattle.bs_words.specs.declared.list.List.{List}
use Rattle.rv_machine.specs.declared.setup.Arg.{Arg}
use Rattle.command_line.specs.Program.{IsSlotText}
use Rattle.command_line.specs.View.{texts}
use Rattle.command_line.specs.Values.{IsItems}
use Rattle.command_line.proofs.Gives.{sets_each, stands_nothing}
use Rattle.command_line.proofs.read.items.Goals as goal

pub returns-clause-value : goal.returns-clause-value
returns-clause-value c =
    sets_each (texts c.args.others.now) c.args.slot IsItems [] c.as_bytes.result.now (λ (items : List Arg). contents items) c.requires.left_out
    (subst (IsSlotText (texts c.args.others.now) c.args.slot) (sym c.as_bytes.ensures.value) c.text_for.ensures) c.items.result c.items.ensures.value

pub returns-clause-bad : goal.returns-clause-bad
returns-clause-bad c = λ e.
    stands_nothing (texts c.args.others.now) c.args.slot IsItems [] c.as_bytes.result.now c.requires.once c.requires.left_out
    (subst (IsSlotText (texts c.args.others.now) c.args.slot) (sym c.as_bytes.ensures.value) c.text_for.ensures) (c.items.ensures.bad e)
