use Rattle.std.proofs.Common.{◌≡◌, ◌<◌, length, refl, sym, subst, rules, arith}
use Rattle.std.specs.Prelude.{◌^◌}
use Rattle.cmm_tree.specs.Tree.{FileTree, functions}
use Rattle.cmm_tree.specs.View.{file_view}
use Rattle.file_compile.proofs.Known.{all_bytes, few_functions}
use Rattle.text_commands.proofs.Compiled.{too_large_to_check}
use Rattle.text_commands.proofs.ready.made_ready.Goals as goal

pub call_of-requires-clause-few : goal.call_of-requires-clause-few
call_of-requires-clause-few g c =
    let file = file_view c.in_ok-checked.checked in
    let same : file_view c.file.result.now ≡ file = rw (c.file.ensures.same, c.typed.ensures) refl in
    subst (λ (f : FileTree). length (functions f) < 2 ^ 32) (sym same) (few_functions c.args.text.now file c.in_ok-checked.ensures.file)

-- its file is the text's, so that it is an accepted one
pub compile_by-requires-clause-accepted : goal.compile_by-requires-clause-accepted
compile_by-requires-clause-accepted g c = λ lifetimes outlive. record {
  text = c.args.text.now;
  are_bytes = all_bytes c.args.text.now (λ i. omega (arith, c.type_inv.text i));
  is_file = c.in_ok-checked.ensures.file;
}

pub returns-in_err-image-clause-refused : goal.returns-in_err-image-clause-refused
returns-in_err-image-clause-refused g c = search (rules, too_large_to_check)
