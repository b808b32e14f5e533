use Rattle.std.proofs.Common.{◌≡◌, ◌<◌, length, refl, ap, sym, subst, ◌∙◌, arith}
use Rattle.bs_words.specs.Contents.{contents}
use Rattle.std.specs.Prelude.{◌^◌}
use Rattle.eval_frames.specs.Views.{layout_view}
use Rattle.cmm_meaning.specs.Layout.{Layout}
use Rattle.cmm_meaning.specs.Run.{cmm_run}
use Rattle.cmm_tree.specs.Tree.{FileTree, functions}
use Rattle.cmm_tree.specs.View.{file_view}
use Rattle.command_line.specs.View.{check_view}
use Rattle.image_form.specs.Tables.{tables}
use Rattle.file_compile.proofs.Known.{all_bytes, few_functions}
use Rattle.text_commands.proofs.Listed.{tried}
use Rattle.text_commands.specs.Lines.{cmm_outcome_text}
use Rattle.text_commands.proofs.trial.trial_of.Goals as goal

pub outcome_of_run-requires-clause-few : goal.outcome_of_run-requires-clause-few
outcome_of_run-requires-clause-few g c =
    let r = c.in_ok-ready.ready in
    let file = file_view r.checked in
    let same : file_view c.file-file.result.now ≡ file = rw (c.file-file.ensures.same, c.typed.ensures) refl in
    subst (λ (f : FileTree). length (functions f) < 2 ^ 32) (sym same) (few_functions c.args.text.now file c.in_ok-ready.ensures.ready.is_file)

pub returns-clause-told : goal.returns-clause-told
returns-clause-told g c =
    let text = c.args.text.now in
    let r = c.in_ok-ready.ready in
    let is = c.in_ok-ready.ensures.ready in
    let file = file_view r.checked in
    let same : file_view c.file-file.result.now ≡ file = rw (c.file-file.ensures.same, c.typed.ensures) refl in
    tried (check_view c.args.check.now) text file is.is_file (all_bytes text (λ i. omega (arith, c.type_inv.text i))) (tables r.image)
    is.is_image is.made is.fits r.call.entry r.call.args.items r.call.answers.items (contents c.in_ok-outcome.outcome) is.call
    (c.in_ok-outcome.ensures
    ∙ ap (λ (f : FileTree). cmm_outcome_text (cmm_run f (layout_view r.layout) r.call.entry r.call.args.items r.call.answers.items c.args.check.now.fuel)) same
    ∙ ap (λ (l : Layout). cmm_outcome_text (cmm_run file l r.call.entry r.call.args.items r.call.answers.items c.args.check.now.fuel)) c.in_ok-ready.ensures.layout)
