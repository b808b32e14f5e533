use Rattle.std.proofs.Common.{rules, arith}
use Rattle.bs_words.specs.Contents.{contents}
use Rattle.cmm_tree.specs.View.{file_view}
use Rattle.file_compile.proofs.Promised.{stage_text_once}
use Rattle.file_compile.proofs.Known.{all_bytes}
use Rattle.text_commands.proofs.Listed.{lists_image}
use Rattle.text_commands.proofs.Passing.{too_large}
use Rattle.text_commands.proofs.list.list_text.Goals as goal

-- its file is the text's, so that it is an accepted one
pub stage_by-requires-clause-accepted : goal.stage_by-requires-clause-accepted
stage_by-requires-clause-accepted g c = λ lifetimes outlive. record {
  text = c.args.text.now;
  are_bytes = all_bytes c.args.text.now (λ i. omega (arith, c.type_inv.text i));
  is_file = c.in_ok-checked.ensures.file;
}

pub returns-in_err-stage_by-clause-refused : goal.returns-in_err-stage_by-clause-refused
returns-in_err-stage_by-clause-refused g c = search (rules, too_large)

pub returns-clause-listed : goal.returns-clause-listed
returns-clause-listed g c =
    let text = c.args.text.now in
    let file = file_view c.in_ok-checked.checked in
    let bytes = contents c.in_ok-stage_by.field-0 in
    record {
      file = file;
      is_file = c.in_ok-checked.ensures.file;
      is = c.in_ok-stage_by.ensures.text;
      only = λ other it. stage_text_once c.args.choices file c.args.stage other bytes it c.in_ok-stage_by.ensures.text;
      image =
          lists_image c.args.choices text file c.in_ok-checked.ensures.file (all_bytes text (λ i. omega (arith, c.type_inv.text i))) bytes c.args.stage
          c.in_ok-stage_by.ensures.text;
    }
