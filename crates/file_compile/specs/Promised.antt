-- What is promised of the image of a file.
use Rattle.choices.specs.declared.choices.Choices.{Choices}
use Rattle.cmm_tree.specs.Tree.{FileTree}
use Rattle.correctness.specs.Bounds.{IsBounded}
use Rattle.correctness.specs.Correct.{IsCorrect}
use Rattle.correctness.specs.InNeed.{AsksInNeed}
use Rattle.file_promise.specs.Known.{IsExact}
use Rattle.image_form.specs.Tables.{Tables}

-- Runs of it do what the file means, it asks for allocations only in need, it is as small as the file asks, and
-- its frame descriptors are exact.
pub record IsPromised (choices : Choices) (file : FileTree) (image : Tables) : Type 0 where
  pub correct : IsCorrect file image
  pub in_need : AsksInNeed file image
  pub bounded : IsBounded file image
  pub exact : IsExact choices file image
