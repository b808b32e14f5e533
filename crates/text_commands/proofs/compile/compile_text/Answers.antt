use Rattle.std.proofs.Common.{rules, arith}
use Rattle.cmm_tree.specs.View.{file_view}
use Rattle.image_form.specs.Tables.{tables}
use Rattle.file_compile.proofs.Known.{all_bytes}
use Rattle.text_commands.proofs.Listed.{image_of}
use Rattle.text_commands.proofs.Passing.{too_large}
use Rattle.text_commands.proofs.compile.compile_text.Goals as goal

-- its file is the text's, so that it is an accepted one
pub compile_by-requires-clause-accepted : goal.compile_by-requires-clause-accepted
compile_by-requires-clause-accepted g c = λ lifetimes outlive. record {
  text = c.args.text.now;
  are_bytes = all_bytes c.args.text.now (λ i. omega (arith, c.type_inv.text i));
  is_file = c.in_ok-checked.ensures.file;
}

pub returns-in_err-image-clause-refused : goal.returns-in_err-image-clause-refused
returns-in_err-image-clause-refused g c = search (rules, too_large)

pub returns-clause-image : goal.returns-clause-image
returns-clause-image g c =
    let text = c.args.text.now in
    let file = file_view c.in_ok-checked.checked in
    let image = tables c.in_ok-image.image in
    let bytes = all_bytes text (λ i. omega (arith, c.type_inv.text i)) in
    record {
      image = image;
      is_image = image_of text file c.in_ok-checked.ensures.file bytes image c.in_ok-image.ensures.is_image c.in_ok-image.ensures.made c.in_ok-image.ensures.fits;
      spelled = c.in_ok-write_image.ensures;
    }
