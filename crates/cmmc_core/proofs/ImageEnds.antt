-- How a command ends that is asked of a text's file, by the image that is made for it.
use Rattle.std.proofs.Common.{◌≡◌, ◌⊎◌, ℕ, List, inl, inr}
use Rattle.bs_fault.specs.declared.large.Large.{Large}
use Rattle.choices.specs.declared.choices.Choices.{Choices}
use Rattle.cmm_front.specs.FileOf.{IsFileOf}
use Rattle.cmm_tree.specs.Tree.{FileTree}
use Rattle.correctness.specs.Bounds.{IsRoomy}
use Rattle.cmmc_core.specs.Complete.{Is, HasOutput, ImageComplete}
use Rattle.commands.specs.Effects.{Side}
use Rattle.cmmc_core.proofs.CommandEnd.{IsWritten, has_output, no_output}
use Rattle.cmmc_core.proofs.TextKnown.{Fits, Passes, IsPassed, not_both}

-- There was no memory; there is an output, and the image of a sized file fits; the file is sized, and a section of its
-- image passes its limit; or no such file was asked for.
pub data ImageEnd (choices : Choices) (text : List ℕ) (IsAsked IsSized : FileTree → Type 0) (out : Side) (status : ℕ) : Type 0 where
  no_memory : status ≡ 9 → ImageEnd choices text IsAsked IsSized out status
  output : IsWritten out status → ((file : FileTree) → IsFileOf text file → IsSized file → Fits choices file) → ImageEnd choices text IsAsked IsSized out status
  passed : status ≡ 8 → ((file : FileTree) → IsFileOf text file → IsAsked file → IsSized file × IsPassed choices file) → ImageEnd choices text IsAsked IsSized out status
  unasked : ((file : FileTree) → IsFileOf text file → IsAsked file → ⊥) → ImageEnd choices text IsAsked IsSized out status

module _ (choices : Choices) (text : List ℕ) (IsAsked IsSized : FileTree → Type 0) (asked : (file : FileTree) → IsSized file → IsAsked file) (out : Side) (status : ℕ) where
  accepted_end : ImageEnd choices text IsAsked IsSized out status → (file : FileTree) → IsFileOf text file → IsAsked file → HasOutput out status ⊎ (IsSized file × (status ≡ 8))
  accepted_end (no_memory z) file is_file ask = inl (no_output out status z)
  accepted_end (output z fits) file is_file ask = inl (has_output out status z)
  accepted_end (passed z large) file is_file ask = inr ((large file is_file ask).0, z)
  accepted_end (unasked none) file is_file ask = absurd (none file is_file ask)

  fits_end : ImageEnd choices text IsAsked IsSized out status → (file : FileTree) → IsFileOf text file → IsAsked file → Fits choices file → HasOutput out status
  fits_end (no_memory z) file is_file ask fits = no_output out status z
  fits_end (output z fit) file is_file ask fits = has_output out status z
  fits_end (passed z large) file is_file ask fits =
      let h = (large file is_file ask).1 in
      absurd (not_both file h.large fits h.passes)
  fits_end (unasked none) file is_file ask fits = absurd (none file is_file ask)

  roomy_end : ImageEnd choices text IsAsked IsSized out status → (file : FileTree) → IsFileOf text file → IsAsked file → IsRoomy file → HasOutput out status
  roomy_end (no_memory z) file is_file ask roomy = no_output out status z
  roomy_end (output z fit) file is_file ask roomy = has_output out status z
  roomy_end (passed z large) file is_file ask roomy =
      let h = (large file is_file ask).1 in
      absurd (h.not_roomy roomy)
  roomy_end (unasked none) file is_file ask roomy = absurd (none file is_file ask)

  large_end : ImageEnd choices text IsAsked IsSized out status → (file : FileTree) (large : Large) → IsFileOf text file → IsSized file → Passes choices large file → Is 8 status
  large_end (no_memory z) file large is_file sized passes = inr z
  large_end (output z fit) file large is_file sized passes = absurd (not_both file large (fit file is_file sized) passes)
  large_end (passed z l) file large is_file sized passes = inl z
  large_end (unasked none) file large is_file sized passes = absurd (none file is_file (asked file sized))

  pub image-complete : ImageEnd choices text IsAsked IsSized out status → ImageComplete choices text IsAsked IsSized out status
  image-complete e = record {
    accepted = accepted_end e;
    fits = λ file image is_file ask made fits. fits_end e file is_file ask (image, (made, fits));
    roomy = roomy_end e;
    too_large = λ file image large is_file sized made passes. large_end e file large is_file sized (image, (made, passes));
  }
