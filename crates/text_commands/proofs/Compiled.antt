-- The words of a check suit, and the image of its text is too large.
use Rattle.std.proofs.Common.{◌≡◌, ℕ, List, Some}
use Rattle.bs_fault.specs.declared.large.Large.{Large}
use Rattle.cmm_front.specs.FileOf.{IsFileOf}
use Rattle.cmm_tree.specs.Tree.{FileTree}
use Rattle.command_line.specs.Command.{CheckTree}
use Rattle.image_form.specs.Tables.{Tables}
use Rattle.rv_layout_rules.specs.TooLarge.{first_too_large}
use Rattle.file_compile.specs.Known.{AreTablesMadeFor}
use Rattle.text_commands.proofs.Passing.{not_roomy, only_made}
use Rattle.text_commands.specs.Arguments.{IsCall}
use Rattle.text_commands.specs.Check.{IsTooLargeToCheck}

pub too_large_to_check : (check : CheckTree) (text : List ℕ) (file : FileTree) (large : Large) (entry : ℕ) (args answers : List ℕ)
    → IsFileOf text file
    → IsCall check file entry args answers
    → (t : Tables) × (AreTablesMadeFor check.choices file t × (first_too_large t ≡ Some large))
    → IsTooLargeToCheck check text large
too_large_to_check check text file large entry args answers is call of = record {
  file = file;
  is_file = is;
  entry = entry;
  args = args;
  answers = answers;
  call = call;
  image = of.0;
  made = only_made file of.0 of.1.0;
  passes = of.1.1;
  not_roomy = not_roomy text file large is of;
}
