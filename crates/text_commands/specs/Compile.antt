-- What compiling a text gives, and why it has no image.
use Rattle.std.specs.Prelude.{◌≡◌, ℕ, List, Some, None}
use Rattle.bs_fault.specs.declared.large.Large.{Large}
use Rattle.choices.specs.declared.choices.Choices.{Choices}
use Rattle.cmm_front.specs.FileOf.{IsFileOf}
use Rattle.cmm_tree.specs.Tree.{FileTree}
use Rattle.correctness.specs.Bounds.{IsBounded, IsRoomy}
use Rattle.correctness.specs.Correct.{IsCorrect}
use Rattle.correctness.specs.InNeed.{AsksInNeed}
use Rattle.file_compile.specs.Known.{IsExact, AreTablesMadeFor}
use Rattle.image_form.specs.Image.{AreTables}
use Rattle.image_form.specs.Tables.{Tables}
use Rattle.rv_layout_rules.specs.TooLarge.{first_too_large}

-- By what is chosen this image is made for the file, and no other.
-- So TooLarge speaks of that image whoever reads it.
pub record IsOnlyMadeFor (choices : Choices) (file : FileTree) (image : Tables) : Type 0 where
  -- each function through all passes, and all of them laid out
  pub made : AreTablesMadeFor choices file image
  pub only : (other : Tables) → AreTablesMadeFor choices file other → other ≡ image

-- The text has a file, and this is the image that is made for it by what is chosen: it is correct for the file, asks for
-- allocations only in need, is as small as the file asks, and its frame descriptors are exact.
pub record IsImageOf (choices : Choices) (text : List ℕ) (image : Tables) : Type 0 where
  pub file : FileTree
  pub is_file : IsFileOf text file
  pub is_image : AreTables image
  pub made : IsOnlyMadeFor choices file image
  pub correct : IsCorrect file image
  pub in_need : AsksInNeed file image
  pub bounded : IsBounded file image
  pub exact : IsExact choices file image
  -- no section passes its limit
  pub fits : first_too_large image ≡ None

-- The text has a file, and of the image that is made for it by what is chosen this section is the first to pass its limit. No
-- roomy file has such an image.
pub record IsTooLarge (choices : Choices) (text : List ℕ) (large : Large) : Type 0 where
  pub file : FileTree
  pub is_file : IsFileOf text file
  pub image : Tables
  pub made : IsOnlyMadeFor choices file image
  pub passes : first_too_large image ≡ Some large
  pub not_roomy : IsRoomy file → ⊥
