-- What listing a stage of a text gives, and why nothing is listed.
use Rattle.std.specs.Prelude.{◌≡◌, ⊤, ℕ, List, IfSome}
use Rattle.choices.specs.declared.choices.Choices.{Choices}
use Rattle.cmm_front.specs.FileOf.{IsFileOf, HasFault}
use Rattle.cmm_tree.specs.Tree.{FileTree}
use Rattle.file_compile.specs.Listed.{image_text, IsStageText}
use Rattle.stages.specs.Image.{IsOfImage}
use Rattle.image_form.specs.Tables.{Tables}
use Rattle.stages.specs.declared.stage.Stage.{Stage}
use Rattle.text_commands.specs.Compile.{IsImageOf, IsTooLarge}
use Rattle.text_commands.specs.declared.compile.Refusal.{Refusal}
use Rattle.text_commands.specs.declared.compile.Refusal.TheVariants.{Fault, TooLarge, OutOfMemory}

-- These bytes are such a text of the image of the text, which is correct, and exact.
-- `frames` and `code` are texts of the image, and have none for a function.
pub record ListsImage (choices : Choices) (text_of : Tables → List ℕ) (text bytes : List ℕ) : Type 0 where
  pub image : Tables
  pub is_image : IsImageOf choices text image
  pub is : bytes ≡ text_of image

-- at a stage of the image the bytes are a text of the image
abbrev pub ListsImageAt : Choices → Stage → List ℕ → List ℕ → Type 0
ListsImageAt choices stage text bytes =
    IfSome (image_text stage) (λ text_of. ListsImage choices text_of text bytes)

-- The text has a file, and these bytes are the text of that stage of it by what is chosen, and no others.
pub record IsListingOf (choices : Choices) (stage : Stage) (text bytes : List ℕ) : Type 0 where
  pub file : FileTree
  pub is_file : IsFileOf text file
  pub is : IsStageText choices file stage bytes
  pub only : (other : List ℕ) → IsStageText choices file stage other → other ≡ bytes
  pub image : ListsImageAt choices stage text bytes

-- Why nothing is listed. The size of the image is a cause for a stage of the image alone.
abbrev pub IsListRefusal : Choices → Stage → List ℕ → Refusal → Type 0
IsListRefusal choices stage text (Fault told) = HasFault text told
IsListRefusal choices stage text (TooLarge large) = IsOfImage stage × IsTooLarge choices text large
IsListRefusal choices stage text OutOfMemory = ⊤
