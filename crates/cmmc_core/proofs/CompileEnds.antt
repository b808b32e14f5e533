-- How `compile` ends, of a text that the source is known to hold.
use Rattle.std.proofs.Common.{◌≡◌, ℕ, List, Some, inl, inr}
use Rattle.bs_fault.specs.declared.fault.Fault.{Fault}
use Rattle.bs_fault.specs.declared.large.Large.{Large}
use Rattle.choices.specs.declared.choices.Choices.{Choices}
use Rattle.cmm_front.specs.FileOf.{IsFileOf, HasFault}
use Rattle.cmm_tree.specs.Tree.{FileTree}
use Rattle.image_form.specs.Tables.{Tables}
use Rattle.commands.specs.Known.{IsImageOf, IsTooLarge}
use Rattle.cmmc_core.specs.Complete.{Is, Every, CompileComplete}
use Rattle.commands.specs.Effects.{Side}
use Rattle.cmmc_core.proofs.CommandEnd.{CompileEnd, made, faulty, passing, OrNoMemory}
use Rattle.cmmc_core.proofs.ImageEnds.{ImageEnd, no_memory, output, passed, unasked, image-complete}
use Rattle.cmmc_core.proofs.TextKnown.{Fits, IsPassed, no_fault, no_file, file_has}

image_of : (choices : Choices) (image : Tables) (t : List ℕ) → IsImageOf choices t image → (file : FileTree) × (IsFileOf t file × Fits choices file)
image_of choices image t h = (h.file, (h.is_file, (image, (h.made.made, h.fits))))

pub large_of : (choices : Choices) (large : Large) (t : List ℕ) → IsTooLarge choices t large → (file : FileTree) × (IsFileOf t file × IsPassed choices file)
large_of choices large t h = (h.file, (h.is_file, record { large = large; passes = (h.image, (h.made.made, h.passes)); not_roomy = h.not_roomy }))

module _ (source out : Side) (text : List ℕ) (known : source.before ≡ Some text) (choices : Choices) where
  fault_end : (status : ℕ) → OrNoMemory status (CompileEnd choices source out status) → (f : Fault) → HasFault text f → Is 3 status
  fault_end status (inl z) f has = inr z
  fault_end status (inr (made image z r)) f has = absurd (no_file source text known _ f has r _ r.holds.is_file)
  fault_end status (inr (faulty g z r)) f has = inl z
  fault_end status (inr (passing large z r)) f has = absurd (no_file source text known _ f has r _ r.holds.is_file)

  image_end : (status : ℕ) → OrNoMemory status (CompileEnd choices source out status) → ImageEnd choices text Every Every out status
  image_end status (inl z) = no_memory z
  image_end status (inr (made image z r)) = output z (λ file is_file sized. file_has source text known _ (Fits choices) file is_file (image_of choices image) r)
  image_end status (inr (faulty g z r)) = unasked (λ file is_file ask. no_fault source text known file g is_file r)
  image_end status (inr (passing large z r)) = passed z (λ file is_file ask. (tt, file_has source text known _ (IsPassed choices) file is_file (large_of choices large) r))

  pub compile-complete : (status : ℕ) → OrNoMemory status (CompileEnd choices source out status) → CompileComplete choices text out status
  compile-complete status e = record { fault = fault_end status e; image = image-complete choices text Every Every (λ file sized. tt) out status (image_end status e) }
