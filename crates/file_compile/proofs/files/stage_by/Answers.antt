use Rattle.std.proofs.Common.{sym, subst}
use Rattle.bs_words.specs.Contents.{contents}
use Rattle.cmm_tree.specs.View.{file_view}
use Rattle.image_form.specs.Tables.{tables}
use Rattle.stages.specs.declared.stage.Stage.{Stage}
use Rattle.file_compile.specs.Listed.{IsStageText}
use Rattle.file_compile.proofs.Passing.{functions_stage}
use Rattle.file_compile.proofs.files.stage_by.Goals as goal

pub returns-in_ok-frames_text-in-Frames-clause-text : goal.returns-in_ok-frames_text-in-Frames-clause-text
returns-in_ok-frames_text-in-Frames-clause-text g c =
    let file = file_view c.args.checked.now in
    let text = contents c.in_ok-frames_text-in-Frames.field-0 in
    subst (λ (s : Stage). IsStageText c.args.choices file s text) (sym c.in-Frames.is) (record {
      image = tables c.in_ok-image-in-Frames.image;
      is_image = c.in_ok-image-in-Frames.ensures.is_image;
      made = c.in_ok-image-in-Frames.ensures.made;
      fits = c.in_ok-image-in-Frames.ensures.fits;
      is = c.in_ok-frames_text-in-Frames.ensures;
    })

pub returns-in_ok-code_text-in-Code-clause-text : goal.returns-in_ok-code_text-in-Code-clause-text
returns-in_ok-code_text-in-Code-clause-text g c =
    let file = file_view c.args.checked.now in
    let text = contents c.in_ok-code_text-in-Code.field-0 in
    subst (λ (s : Stage). IsStageText c.args.choices file s text) (sym c.in-Code.is) (record {
      image = tables c.in_ok-image-in-Code.image;
      is_image = c.in_ok-image-in-Code.ensures.is_image;
      made = c.in_ok-image-in-Code.ensures.made;
      fits = c.in_ok-image-in-Code.ensures.fits;
      is = c.in_ok-code_text-in-Code.ensures;
    })

pub returns-in_ok-functions_text-in_default-clause-text : goal.returns-in_ok-functions_text-in_default-clause-text
returns-in_ok-functions_text-in_default-clause-text g c =
    functions_stage c.args.choices c.args.stage (file_view c.args.checked.now) (contents c.in_ok-functions_text-in_default.field-0) c.in_default.not-Frames
    c.in_default.not-Code c.in_ok-functions_text-in_default.ensures
