-- How `list` ends, of a text that the source is known to hold.
use Rattle.std.proofs.Common.{◌≡◌, ℕ, List, Some, refl, inl, inr}
use Rattle.bs_fault.specs.declared.fault.Fault.{Fault}
use Rattle.choices.specs.declared.choices.Choices.{Choices}
use Rattle.cmm_front.specs.FileOf.{IsFileOf, HasFault}
use Rattle.cmm_tree.specs.Tree.{FileTree}
use Rattle.stages.specs.Image.{IsOfImage}
use Rattle.stages.specs.declared.stage.Stage.{Stage}
use Rattle.stages.specs.declared.stage.Stage.TheVariants.{Select, CombAlloc, Cse, Dead, Spill, Split, Alloc, Linear, Frames, Code}
use Rattle.commands.specs.Known.{IsListingOf}
use Rattle.cmmc_core.specs.Complete.{Is, Every, ListComplete}
use Rattle.commands.specs.Effects.{Side}
use Rattle.commands.specs.Ends.{fault, too_large}
use Rattle.cmmc_core.proofs.CommandEnd.{ListEnd, shown, unshown, OrNoMemory}
use Rattle.cmmc_core.proofs.CompileEnds.{large_of}
use Rattle.cmmc_core.proofs.ImageEnds.{ImageEnd, no_memory, output, passed, unasked, image-complete}
use Rattle.cmmc_core.proofs.TextKnown.{Fits, IsPassed, no_fault, no_file, file_has}

-- what is listed of the image is of one that fits
listed_fits : (choices : Choices) (stage : Stage) (text bytes : List ℕ) → IsOfImage stage → (h : IsListingOf choices stage text bytes) → Fits choices h.file
listed_fits choices Select text bytes of h = absurd of
listed_fits choices CombAlloc text bytes of h = absurd of
listed_fits choices Cse text bytes of h = absurd of
listed_fits choices Dead text bytes of h = absurd of
listed_fits choices Spill text bytes of h = absurd of
listed_fits choices Split text bytes of h = absurd of
listed_fits choices Alloc text bytes of h = absurd of
listed_fits choices Linear text bytes of h = absurd of
listed_fits choices Frames text bytes of h = (h.is.image, (h.is.made, h.is.fits))
listed_fits choices Code text bytes of h = (h.is.image, (h.is.made, h.is.fits))

listed_of : (choices : Choices) (stage : Stage) (bytes : List ℕ) → IsOfImage stage → (t : List ℕ) → IsListingOf choices stage t bytes → (file : FileTree) × (IsFileOf t file × Fits choices file)
listed_of choices stage bytes of t h = (h.file, (h.is_file, listed_fits choices stage t bytes of h))

module _ (source out : Side) (text : List ℕ) (known : source.before ≡ Some text) (choices : Choices) (stage : Stage) where
  fault_end : (status : ℕ) → OrNoMemory status (ListEnd choices stage source out status) → (f : Fault) → HasFault text f → Is 3 status
  fault_end status (inl z) f has = inr z
  fault_end status (inr (shown bytes z r)) f has = absurd (no_file source text known _ f has r _ r.holds.is_file)
  fault_end status (inr (unshown line (fault g r))) f has = inl refl
  fault_end status (inr (unshown line (too_large large of r))) f has = absurd (no_file source text known _ f has r _ r.holds.is_file)

  image_end : (status : ℕ) → OrNoMemory status (ListEnd choices stage source out status) → ImageEnd choices text Every (λ file. IsOfImage stage) out status
  image_end status (inl z) = no_memory z
  image_end status (inr (shown bytes z r)) = output z (λ file is_file of. file_has source text known _ (Fits choices) file is_file (listed_of choices stage bytes of) r)
  image_end status (inr (unshown line (fault g r))) = unasked (λ file is_file ask. no_fault source text known file g is_file r)
  image_end status (inr (unshown line (too_large large of r))) =
      passed refl (λ file is_file ask. (of, file_has source text known _ (IsPassed choices) file is_file (large_of choices large) r))

  pub list-complete : (status : ℕ) → OrNoMemory status (ListEnd choices stage source out status) → ListComplete choices stage text out status
  list-complete status e =
      record { fault = fault_end status e; image = image-complete choices text Every (λ file. IsOfImage stage) (λ file of. tt) out status (image_end status e) }
