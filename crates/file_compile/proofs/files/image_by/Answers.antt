use Rattle.std.proofs.Common.{◌≡◌, ◌<◌, length, ap, sym, subst, ◌∙◌}
use Rattle.std.specs.Prelude.{◌^◌}
use Rattle.bs_words.specs.Contents.{contents}
use Rattle.cmm_tree.specs.View.{file_view}
use Rattle.cmm_tree.specs.declared.file.File.{File}
use Rattle.cmm_tree.specs.Tree.{functions}
use Rattle.cmm_front.specs.FileOf.{HasPlace}
use Rattle.cmm_front.proofs.Readings.{is_placed}
use Rattle.file_promise.proofs.Made.{can_be_laid, few_functions}
use Rattle.rv_layout_rules.specs.Conditions.{CanBeLaid}
use Rattle.file_compile.proofs.Making.{all_accepted, all_listed, all_made, few_listed}
use Rattle.file_compile.proofs.files.image_by.Goals as goal

pub all_pieces-requires-clause-accepted : goal.all_pieces-requires-clause-accepted
all_pieces-requires-clause-accepted g c = λ lifetimes outlive.
    let file = c.args.checked.now in
    let whole : c.as_slice.result.now ≡ contents file.items =
    c.as_slice.ensures ∙ ap (λ (f : File). contents f.items) (c.file-file.ensures.same ∙ c.typed.ensures) in
    all_accepted (file_view c.args.checked.now) c.requires.accepted c.as_slice-2.result.now
    (all_listed file c.as_slice.result.now c.in_ok-functions.functions.items c.as_slice-2.result.now whole c.as_slice-2.ensures.value c.in_ok-functions.ensures.trees)

pub all_pieces-requires-clause-few : goal.all_pieces-requires-clause-few
all_pieces-requires-clause-few g c = λ lifetimes outlive.
    let accepted = c.requires.accepted in
    let file = c.args.checked.now in
    let whole : c.as_slice.result.now ≡ contents file.items =
    c.as_slice.ensures ∙ ap (λ (f : File). contents f.items) (c.file-file.ensures.same ∙ c.typed.ensures) in
    few_listed (2 ^ 32) file c.as_slice.result.now c.in_ok-functions.functions.items c.as_slice-2.result.now whole c.as_slice-2.ensures.value c.in_ok-functions.ensures.trees
    (few_functions accepted.text (file_view file) accepted.is_file)

pub place_data-requires-clause-data : goal.place_data-requires-clause-data
place_data-requires-clause-data g c =
    let accepted = c.requires.accepted in
    let file = c.args.checked.now in
    subst (λ (f : File). HasPlace (file_view f)) (sym (c.file-file.ensures.same ∙ c.typed.ensures))
    (is_placed accepted.text (file_view file) (accepted.is_file).read)

pub place_data-requires-clause-few : goal.place_data-requires-clause-few
place_data-requires-clause-few g c =
    let accepted = c.requires.accepted in
    let file = c.args.checked.now in
    subst (λ (f : File). length (functions (file_view f)) < 2 ^ 32) (sym (c.file-file.ensures.same ∙ c.typed.ensures))
    (few_functions accepted.text (file_view file) accepted.is_file)

pub assemble-requires-clause-can : goal.assemble-requires-clause-can
assemble-requires-clause-can g c = λ lifetimes outlive.
    let accepted = c.requires.accepted in
    let file = c.args.checked.now in
    let whole : c.as_slice.result.now ≡ contents file.items =
    c.as_slice.ensures ∙ ap (λ (f : File). contents f.items) (c.file-file.ensures.same ∙ c.typed.ensures) in
    subst (λ (f : File). CanBeLaid (file_view f) c.as_slice-3.result.now) (sym c.typed-2.ensures)
    (can_be_laid c.args.choices accepted.text (file_view c.args.checked.now) accepted.is_file c.as_slice-3.result.now
    (all_made c.args.choices file c.as_slice.result.now c.in_ok-functions.functions.items c.as_slice-2.result.now c.in_ok-pieces.pieces.items c.as_slice-3.result.now
    whole c.as_slice-2.ensures.value c.in_ok-functions.ensures.trees c.in_ok-pieces.ensures c.as_slice-3.ensures.value))
