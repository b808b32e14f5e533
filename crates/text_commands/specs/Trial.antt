-- A text that is both compiled and run by its meaning.
use Rattle.std.specs.Prelude.{◌≡◌, ℕ, List}
use Rattle.cmm_meaning.specs.Run.{cmm_run}
use Rattle.command_line.specs.Command.{CheckTree}
use Rattle.correctness.specs.Setting.{layout_of}
use Rattle.image_form.specs.Tables.{Tables}
use Rattle.text_commands.specs.Arguments.{IsCall}
use Rattle.text_commands.specs.Compile.{IsImageOf}
use Rattle.text_commands.specs.Lines.{cmm_outcome_text}

-- This is the image of the text by what the words choose, and this the outcome of the run of its file's function that
-- the words name, with the frames and addresses of the image.
pub record IsTrial (check : CheckTree) (text : List ℕ) (image : Tables) (outcome : List ℕ) : Type 0
  where
    pub is_image : IsImageOf check.choices text image
    pub entry : ℕ
    pub args : List ℕ
    pub answers : List ℕ
    pub call : IsCall check is_image.file entry args answers
    pub told : outcome ≡ cmm_outcome_text (cmm_run is_image.file (layout_of image) entry args answers check.fuel)
