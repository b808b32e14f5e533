use Rattle.std.proofs.Common.{◌≡◌, ◌∙◌, Some, sym}
use Rattle.bs_words.specs.Contents.{contents}
use Rattle.cmm_data.specs.Placement.{value_of_symbol}
use Rattle.cmm_data.specs.Symbols.{value_in}
use Rattle.cmm_tree.specs.View.{file_view, function_view}
use Rattle.text_commands.specs.Arguments.{words_of_arguments, no_argument, misfit, no_answer}
use Rattle.text_commands.proofs.Words.{words_same}
use Rattle.text_commands.proofs.Fitting.{no-fit}
use Rattle.text_commands.proofs.call.words_for.Goals as goal

pub returns-in-None : goal.returns-in-None
returns-in-None c =
    let file = file_view c.args.file.now in
    no_argument (sym (words_same (value_in c.in_ok-table.table) (value_of_symbol file) c.in_ok-table.ensures.each (contents c.args.check.now.args))
    ∙ sym (rw c.in-None.is at c.in_ok-args.ensures))

pub returns-then-not-branch : goal.returns-then-not-branch
returns-then-not-branch c =
    let file = file_view c.args.file.now in
    let words : words_of_arguments (value_of_symbol file) (contents c.args.check.now.args) ≡ Some c.in-Some.args.items =
    sym (words_same (value_in c.in_ok-table.table) (value_of_symbol file) c.in_ok-table.ensures.each (contents c.args.check.now.args))
    ∙ sym (rw c.in-Some.is at c.in_ok-args.ensures) in
    misfit c.in-Some.args.items words
    (no-fit file c.args.number (function_view c.args.function.now) c.in-Some.args.items c.as_slice.result.now _ c.requires.numbered c.as_slice.ensures.value c.if-not-branch.true c.in_ok-fits_entry.ensures.1)

pub returns : goal.returns
returns c =
    let file = file_view c.args.file.now in
    no_answer (sym (words_same (value_in c.in_ok-table.table) (value_of_symbol file) c.in_ok-table.ensures.each (contents c.args.check.now.answers))
    ∙ sym (rw c.in-None-2.is at c.in_ok-answers.ensures))
