use Rattle.std.proofs.Common.{◌≡◌, ◌<◌, length, Some, Err, Result, sym, ap, ◌∙◌, subst, arith}
use Rattle.std.specs.Prelude.{◌^◌}
use Rattle.function_places.specs.Places.{forms_in}
use Rattle.bs_fault.specs.declared.build.BuildError.{BuildError}
use Rattle.bs_fault.specs.declared.build.BuildError.TheVariants as error
use Rattle.bs_fault.specs.declared.large.Large.{Large}
use Rattle.cmm_tree.specs.Tree.{functions}
use Rattle.cmm_tree.specs.View.{file_view}
use Rattle.cmm_tree.specs.declared.file.File.{File}
use Rattle.image_form.specs.Image.{AreTables}
use Rattle.image_form.specs.Tables.{Tables}
use Rattle.assemble_rules.proofs.Whole.{is_image}
use Rattle.rv_layout_rules.specs.Conditions.{CanBeLaid}
use Rattle.rv_layout_rules.specs.Laid.{laid_out}
use Rattle.rv_layout_rules.specs.TooLarge.{first_too_large}
use Rattle.rv_layout_rules.proofs.Functions.{all_reach}
use Rattle.assemble.proofs.image.assemble.Goals as goal

same_large : {T : Type 0} (a b : Large) → ◌≡◌ {A = Result T BuildError} (Err (error.TooLarge a)) (Err (error.TooLarge b)) → a ≡ b
same_large a b e = cc

pub of_file-requires-clause-few : goal.of_file-requires-clause-few
of_file-requires-clause-few g c =
    subst (λ (f : File). length (functions (file_view f)) < 2 ^ 32) (sym c.file-file.ensures.same) c.requires.can.of_file.few_functions

pub of-requires-clause-numbers : goal.of-requires-clause-numbers
of-requires-clause-numbers g c = omega (arith, c.requires.can.each_one, c.requires.can.of_file.few_functions)

pub image-requires-clause-fits : goal.image-requires-clause-fits
image-requires-clause-fits g c = λ lifetimes outlive. sym (c.too_large.ensures _ c.sizes.ensures) ∙ c.in_default.is

pub returns-in-Some-clause-large : goal.returns-in-Some-clause-large
returns-in-Some-clause-large g c = λ large same.
    let ps = c.args.pieces.now in
    let forms = forms_in c.in_ok-places.places in
    let t : Tables = laid_out (file_view c.file-file.result.now) ps forms in
    let found = sym (c.too_large.ensures t c.sizes.ensures) ∙ (c.in-Some.is ∙ ap Some (same_large c.in-Some.large large same)) in
    (t, (record { forms = forms; are = c.in_ok-places.ensures.forms; is = ap (λ (f : File). laid_out (file_view f) ps forms) c.file-file.ensures.same }, found))

pub returns-clause-fits : goal.returns-clause-fits
returns-clause-fits g c = ap first_too_large c.in_ok-image.ensures ∙ (sym (c.too_large.ensures _ c.sizes.ensures) ∙ c.in_default.is)

pub returns-clause-is_image : goal.returns-clause-is_image
returns-clause-is_image g c =
    let ps = c.args.pieces.now in
    let forms = forms_in c.in_ok-places.places in
    let can = subst (λ (f : File). CanBeLaid (file_view f) ps) (sym c.file-file.ensures.same) c.requires.can in
    subst AreTables (sym c.in_ok-image.ensures)
    (is_image (file_view c.file-file.result.now) ps forms can (all_reach ps forms c.in_ok-places.ensures.forms) (sym (c.too_large.ensures _ c.sizes.ensures) ∙ c.in_default.is))
