use Rattle.std.proofs.Common.{◌≡◌, ap, ◌∙◌}
use Rattle.bs_words.specs.Contents.{contents}
use Rattle.cmm_tree.specs.View.{file_view}
use Rattle.cmm_tree.specs.declared.file.File.{File}
use Rattle.file_compile.proofs.Making.{all_accepted, all_listed}
use Rattle.file_compile.proofs.files.functions_text.Goals as goal

pub all_texts-requires-clause-accepted : goal.all_texts-requires-clause-accepted
all_texts-requires-clause-accepted c =
    let file = c.args.checked.now in
    let whole : c.as_slice.result.now ≡ contents file.items =
    c.as_slice.ensures ∙ ap (λ (f : File). contents f.items) (c.file.ensures.same ∙ c.typed.ensures) in
    all_accepted (file_view c.args.checked.now) c.requires.accepted c.as_slice-2.result.now
    (all_listed file c.as_slice.result.now c.in_ok-functions.functions.items c.as_slice-2.result.now whole c.as_slice-2.ensures.value c.in_ok-functions.ensures.trees)
