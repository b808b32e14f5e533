-- What a run of a text comes to, and why there is none.
use Rattle.std.specs.Prelude.{◌≡◌, ℕ, List, Some, None}
use Rattle.bs_fault.specs.declared.large.Large.{Large}
use Rattle.cmm_front.specs.FileOf.{IsFileOf}
use Rattle.cmm_meaning.specs.Layout.{Layout}
use Rattle.cmm_meaning.specs.Run.{cmm_run}
use Rattle.cmm_tree.specs.Tree.{FileTree}
use Rattle.command_line.specs.Command.{CheckTree}
use Rattle.correctness.specs.Bounds.{IsRoomy}
use Rattle.correctness.specs.Setting.{layout_of}
use Rattle.image_form.specs.Tables.{Tables}
use Rattle.rv_layout_rules.specs.TooLarge.{first_too_large}
use Rattle.text_commands.specs.Arguments.{NamesNone, IsCall, HasUnfit}
use Rattle.text_commands.specs.Compile.{IsOnlyMadeFor}
use Rattle.text_commands.specs.Lines.{check_text}

-- what is reported of a run of a file: of a function on words, with these frames and addresses
abbrev pub report_of_run : FileTree → Layout → ℕ → List ℕ → List ℕ → ℕ → List ℕ
report_of_run file layout entry args answers fuel =
    check_text fuel (cmm_run file layout entry args answers fuel)

-- This is reported of the run of a text: of the function of its file on the words, with the frames and addresses of the
-- image that is made for the file by what the words choose, of which no section passes its limit.
pub record IsCheckOf (check : CheckTree) (text lines : List ℕ) : Type 0 where
  pub file : FileTree
  pub is_file : IsFileOf text file
  pub entry : ℕ
  pub args : List ℕ
  pub answers : List ℕ
  pub call : IsCall check file entry args answers
  pub image : Tables
  pub made : IsOnlyMadeFor check.choices file image
  pub fits : first_too_large image ≡ None
  pub told : lines ≡ report_of_run file (layout_of image) entry args answers check.fuel

-- The text has a file, and no function of that name.
pub record HasNoEntry (check : CheckTree) (text : List ℕ) : Type 0 where
  pub file : FileTree
  pub is_file : IsFileOf text file
  pub none : NamesNone file check.entry

-- The text has a file with a function of that name, which the words do not suit.
pub record IsUnfitFor (check : CheckTree) (text : List ℕ) : Type 0 where
  pub file : FileTree
  pub is_file : IsFileOf text file
  pub unfit : HasUnfit check file

-- The words suit, and of the image that is made for the text's file by what they choose this section is the first to
-- pass its limit. No roomy file has such an image.
pub record IsTooLargeToCheck (check : CheckTree) (text : List ℕ) (large : Large) : Type 0 where
  pub file : FileTree
  pub is_file : IsFileOf text file
  pub entry : ℕ
  pub args : List ℕ
  pub answers : List ℕ
  pub call : IsCall check file entry args answers
  pub image : Tables
  pub made : IsOnlyMadeFor check.choices file image
  pub passes : first_too_large image ≡ Some large
  pub not_roomy : IsRoomy file → ⊥
