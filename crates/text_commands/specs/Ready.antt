-- A text that is ready to be run.
use Rattle.std.specs.Prelude.{◌≡◌, ℕ, List, None}
use Rattle.cmm_front.specs.FileOf.{IsFileOf}
use Rattle.cmm_tree.specs.Tree.{FileTree}
use Rattle.command_line.specs.Command.{CheckTree}
use Rattle.image_form.specs.Image.{AreTables}
use Rattle.image_form.specs.Tables.{Tables}
use Rattle.rv_layout_rules.specs.TooLarge.{first_too_large}
use Rattle.file_compile.specs.Known.{AreTablesMadeFor}
use Rattle.text_commands.specs.Arguments.{IsCall}

-- The text has this file, the words ask for this call of one of its functions, and this is the image that is made for
-- the file by what they choose, of which no section passes its limit.
pub record IsRunReady (check : CheckTree) (text : List ℕ) (file : FileTree) (entry : ℕ) (args answers : List ℕ)
    (image : Tables) : Type 0 where
  pub is_file : IsFileOf text file
  pub call : IsCall check file entry args answers
  pub is_image : AreTables image
  pub made : AreTablesMadeFor check.choices file image
  pub fits : first_too_large image ≡ None
