-- What is promised of the image that a checked file is compiled to, for those who compile.
use Rattle.std.proofs.Common.{◌≡◌, ◌<◌, ℕ, All, List, None, Result, Ok, Err}
use Rattle.std.specs.Prelude.{IfOk}
use Rattle.choices.specs.declared.choices.Choices.{Choices}
use Rattle.cmm_front.specs.FileOf.{IsFileOf}
use Rattle.cmm_tree.specs.Tree.{FileTree}
use Rattle.correctness.specs.Bounds.{IsBounded, IsRoomy}
use Rattle.correctness.specs.Correct.{IsCorrect}
use Rattle.correctness.specs.InNeed.{AsksInNeed}
use Rattle.file_compile.specs.Accepted.{IsAcceptedFile}
use Rattle.file_compile.specs.Listed.{IsStageText}
use Rattle.file_compile.specs.Promised.{IsPromised}
use Rattle.file_compile.proofs.Once as listed
use Rattle.file_promise.proofs.Promise as promise
use Rattle.image_form.specs.Image.{AreTables, IsImage}
use Rattle.image_form.specs.Tables.{Tables, tables}
use Rattle.image_form.specs.declared.image.Image.{Image}
use Rattle.rv_layout_rules.specs.TooLarge.{first_too_large}
use Rattle.file_promise.specs.Known.{IsExact, AreTablesMadeFor}
use Rattle.stages.specs.declared.stage.Stage.{Stage}

pub stage_text_once : (choices : Choices) (file : FileTree) (stage : Stage) (a b : List ℕ) → IsStageText choices file stage a → IsStageText choices file stage b → a ≡ b
stage_text_once = listed.stage_text_once

module _ {choices : Choices} (text : List ℕ) (file : FileTree) (is : IsFileOf text file) (image : Tables) (made : AreTablesMadeFor choices file image) where
  pub made_correct : All (λ b. b < 256) text → AreTables image → IsCorrect file image
  made_correct are tables = promise.made_correct text file is image made are tables

  pub made_in_need : All (λ b. b < 256) text → AreTables image → AsksInNeed file image
  made_in_need are tables = promise.made_in_need text file is image made are tables

  pub made_bounded : IsBounded file image
  made_bounded = promise.made_bounded text file is image made

  pub made_exact : IsExact choices file image
  made_exact = promise.made_exact text file is image made

  pub roomy_fits : IsRoomy file → first_too_large image ≡ None
  roomy_fits roomy = promise.roomy_fits text file is image made roomy

-- an image that is made for an accepted file
pub promised : {E : Type 0} (choices : Choices) (file : FileTree) → IsAcceptedFile file → (r : Result Image E) →
    IfOk r (λ (image : Image). AreTablesMadeFor choices file (tables image)) → IfOk r IsImage → IfOk r (λ (image : Image). IsPromised choices file (tables image))
promised choices file accepted (Ok image) made is = record {
  correct = made_correct accepted.text file accepted.is_file (tables image) made accepted.are_bytes is;
  in_need = made_in_need accepted.text file accepted.is_file (tables image) made accepted.are_bytes is;
  bounded = made_bounded accepted.text file accepted.is_file (tables image) made;
  exact = made_exact accepted.text file accepted.is_file (tables image) made;
}
promised choices file accepted (Err e) made is = tt
