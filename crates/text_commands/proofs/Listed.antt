-- The text of a stage of the image is one of the text's image.
use Rattle.std.proofs.Common.{◌≡◌, ◌<◌, ℕ, All, List, Option, Some, None}
use Rattle.std.specs.Prelude.{MatchOption, IfSome}
use Rattle.cmm_front.specs.FileOf.{IsFileOf}
use Rattle.cmm_meaning.specs.Run.{cmm_run}
use Rattle.cmm_tree.specs.Tree.{FileTree, functions}
use Rattle.command_line.specs.Command.{CheckTree}
use Rattle.correctness.specs.Setting.{layout_of}
use Rattle.file_compile.proofs.Promised.{made_correct, made_in_need, made_bounded, made_exact}
use Rattle.file_compile.specs.Listed.{AreFunctionTexts, IsImageText, image_text, IsStageText}
use Rattle.image_form.specs.Image.{AreTables}
use Rattle.image_form.specs.Tables.{Tables}
use Rattle.rv_layout_rules.specs.TooLarge.{first_too_large}
use Rattle.file_compile.specs.Known.{AreTablesMadeFor}
use Rattle.choices.specs.declared.choices.Choices.{Choices}
use Rattle.stages.specs.declared.stage.Stage.{Stage}
use Rattle.text_commands.proofs.Passing.{only_made}
use Rattle.text_commands.specs.Arguments.{IsCall}
use Rattle.text_commands.specs.Compile.{IsImageOf}
use Rattle.text_commands.specs.Lines.{cmm_outcome_text}
use Rattle.text_commands.specs.Listing.{ListsImage, ListsImageAt}
use Rattle.text_commands.specs.Trial.{IsTrial}

-- the image that is made for the text's file, where it fits, is that of the text
pub image_of : {choices : Choices} (text : List ℕ) (file : FileTree) → IsFileOf text file → All (λ b. b < 256) text → (image : Tables) → AreTables image → AreTablesMadeFor choices file image →
    first_too_large image ≡ None → IsImageOf choices text image
image_of text file is are image tables made fits = record {
  file = file;
  is_file = is;
  is_image = tables;
  made = only_made file image made;
  correct = made_correct text file is image made are tables;
  in_need = made_in_need text file is image made are tables;
  bounded = made_bounded text file is image made;
  exact = made_exact text file is image made;
  fits = fits;
}

-- it, and the outcome of a run of a function of the file
pub tried : (check : CheckTree) (text : List ℕ) (file : FileTree) → IsFileOf text file → All (λ b. b < 256) text → (image : Tables) → AreTables image →
    AreTablesMadeFor check.choices file image → first_too_large image ≡ None → (entry : ℕ) (args answers outcome : List ℕ) → IsCall check file entry args answers →
    outcome ≡ cmm_outcome_text (cmm_run file (layout_of image) entry args answers check.fuel) → IsTrial check text image outcome
unfolding image_of
tried check text file is are image tables made fits entry args answers outcome call told = record {
  is_image = image_of text file is are image tables made fits;
  entry = entry;
  args = args;
  answers = answers;
  call = call;
  told = told;
}

module _ (choices : Choices) (text : List ℕ) (file : FileTree) (is : IsFileOf text file) (are : All (λ b. b < 256) text) (bytes : List ℕ) where
  of_image : (text_of : Tables → List ℕ) → IsImageText choices text_of file bytes → ListsImage choices text_of text bytes
  of_image text_of listed =
      record { image = listed.image; is_image = image_of text file is are listed.image listed.is_image listed.made listed.fits; is = listed.is }

  lists_by : (stage : Stage) (o : Option (Tables → List ℕ))
      → MatchOption o (AreFunctionTexts choices stage (functions file) bytes) (λ text_of. IsImageText choices text_of file bytes)
      → IfSome o (λ text_of. ListsImage choices text_of text bytes)
  lists_by stage None listed = tt
  lists_by stage (Some text_of) listed = of_image text_of listed

  pub lists_image : (stage : Stage) → IsStageText choices file stage bytes → ListsImageAt choices stage text bytes
  lists_image stage listed = lists_by stage (image_text stage) listed
