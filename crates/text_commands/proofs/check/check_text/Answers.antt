use Rattle.std.proofs.Common.{◌≡◌, ◌<◌, length, refl, ap, sym, subst, ◌∙◌}
use Rattle.std.specs.Prelude.{◌^◌}
use Rattle.eval_frames.specs.Views.{layout_view}
use Rattle.cmm_meaning.specs.Layout.{Layout}
use Rattle.cmm_tree.specs.Tree.{FileTree, functions}
use Rattle.cmm_tree.specs.View.{file_view}
use Rattle.file_compile.proofs.Known.{few_functions}
use Rattle.image_form.specs.Tables.{tables}
use Rattle.text_commands.proofs.Passing.{only_made}
use Rattle.text_commands.specs.Check.{report_of_run}
use Rattle.text_commands.proofs.check.check_text.Goals as goal

pub report_of_run-requires-clause-few : goal.report_of_run-requires-clause-few
report_of_run-requires-clause-few g c =
    let r = c.in_ok-ready.ready in
    let file = file_view r.checked in
    let same : file_view c.file-file.result.now ≡ file = rw (c.file-file.ensures.same, c.typed.ensures) refl in
    subst (λ (f : FileTree). length (functions f) < 2 ^ 32) (sym same) (few_functions c.args.text.now file c.in_ok-ready.ensures.ready.is_file)

pub returns-clause-told : goal.returns-clause-told
returns-clause-told g c =
    let r = c.in_ok-ready.ready in
    let is = c.in_ok-ready.ensures.ready in
    let file = file_view r.checked in
    let image = tables r.image in
    let same : file_view c.file-file.result.now ≡ file = rw (c.file-file.ensures.same, c.typed.ensures) refl in
    record {
      file = file;
      is_file = is.is_file;
      entry = r.call.entry;
      args = r.call.args.items;
      answers = r.call.answers.items;
      call = is.call;
      image = image;
      made = only_made file image is.made;
      fits = is.fits;
      told =
          c.in_ok-report_of_run.ensures
          ∙ ap (λ (f : FileTree). report_of_run f (layout_view r.layout) r.call.entry r.call.args.items r.call.answers.items c.args.check.now.fuel) same
          ∙ ap (λ (l : Layout). report_of_run file l r.call.entry r.call.args.items r.call.answers.items c.args.check.now.fuel) c.in_ok-ready.ensures.layout;
    }
