-- The image that is made for the file of an accepted text is correct for it, asks for allocations only in need, is bounded
-- by it, and its descriptors are exact.
use Rattle.std.proofs.Common.{◌≡◌, ◌<◌, ℕ, All, List, None}
use Rattle.choices.specs.declared.choices.Choices.{Choices}
use Rattle.cmm_front.specs.FileOf.{IsFileOf}
use Rattle.cmm_tree.specs.Tree.{FileTree}
use Rattle.code_bounds.proofs.Image.{image_bounded}
use Rattle.code_bounds.proofs.Roomy as room
use Rattle.compiled_files.proofs.Correct.{correct, in_need}
use Rattle.correctness.specs.Bounds.{IsBounded, IsRoomy}
use Rattle.correctness.specs.Correct.{IsCorrect}
use Rattle.correctness.specs.InNeed.{AsksInNeed}
use Rattle.image_form.specs.Image.{AreTables}
use Rattle.image_form.specs.Tables.{Tables}
use Rattle.rv_layout_rules.specs.Laid.{IsLaid}
use Rattle.rv_layout_rules.specs.TooLarge.{first_too_large}
use Rattle.rv_layout_rules.proofs.Functions.{laid}
use Rattle.made_once.specs.Known.{AreTablesMadeFor, IsExact}
use Rattle.file_promise.proofs.Bytes.{bytes_of}
use Rattle.file_promise.proofs.Made.{are_chained, are_exact, can_be_laid, keep}

module _ {choices : Choices} (text : List ℕ) (file : FileTree) (is : IsFileOf text file) (image : Tables) (made : AreTablesMadeFor choices file image) where
  is_laid : IsLaid file made.pieces image
  is_laid = laid file made.pieces image made.laid

  pub made_correct : All (λ b. b < 256) text → AreTables image → IsCorrect file image
  made_correct bytes tables =
      correct text file is (bytes_of text bytes) image made.pieces (can_be_laid choices text file is made.pieces made.each) is_laid tables (are_chained choices text file is made.pieces made.each)

  pub made_in_need : All (λ b. b < 256) text → AreTables image → AsksInNeed file image
  made_in_need bytes tables =
      in_need text file is (bytes_of text bytes) image made.pieces (can_be_laid choices text file is made.pieces made.each) is_laid tables (are_chained choices text file is made.pieces made.each)

  pub made_bounded : IsBounded file image
  made_bounded = image_bounded file made.pieces image (can_be_laid choices text file is made.pieces made.each) is_laid (keep choices text file is made.pieces made.each)

  pub made_exact : IsExact choices file image
  made_exact = record { pieces = made.pieces; laid = is_laid; each = are_exact choices text file is made.pieces made.each }

  pub roomy_fits : IsRoomy file → first_too_large image ≡ None
  roomy_fits roomy =
      room.roomy_fits text file made.pieces image is (can_be_laid choices text file is made.pieces made.each) is_laid (keep choices text file is made.pieces made.each) roomy
