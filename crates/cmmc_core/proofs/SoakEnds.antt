-- How `soak` ends: the text that is drawn has one file, and no fault.
use Rattle.std.proofs.Common.{◌≡◌, ◌⊎◌, ℕ, ◌≤◌, subst, inl, inr}
use Rattle.choices.specs.Defaults.{defaults}
use Rattle.cmm_front.proofs.OneFile.{one_file}
use Rattle.cmm_front.specs.FileOf.{IsFileOf}
use Rattle.cmm_tree.specs.Tree.{FileTree}
use Rattle.cmmc_core.specs.Complete.{HasOutput, Every, SoakComplete}
use Rattle.commands.specs.Effects.{Side}
use Rattle.commands.specs.Soak.{soak_text}
use Rattle.cmmc_core.proofs.CommandEnd.{SoakEnd, reported, unreported, OrNoMemory, has_output, no_output}
use Rattle.commands.proofs.Drawn.{drawn_bytes}
use Rattle.cmmc_core.proofs.CompileEnds.{large_of}
use Rattle.cmmc_core.proofs.ImageEnds.{ImageEnd, no_memory, output, passed, image-complete}
use Rattle.cmmc_core.proofs.TextKnown.{Fits, IsPassed}

module _ (seed functions : ℕ) (few : functions ≤ 1000) (out : Side) where
  same_file : (P : FileTree → Type 0) (file other : FileTree) → IsFileOf (soak_text seed functions) file → IsFileOf (soak_text seed functions) other → P file → P other
  same_file P file other h g p = subst P (one_file (soak_text seed functions) file other (drawn_bytes seed functions few) h g) p

  accepted_end : (status : ℕ) → OrNoMemory status (SoakEnd seed functions out status) → HasOutput out status ⊎ (status ≡ 8)
  accepted_end status (inl z) = inl (no_output out status z)
  accepted_end status (inr (reported lines z h)) = inl (has_output out status z)
  accepted_end status (inr (unreported large z h)) = inr z

  image_end : (status : ℕ) → OrNoMemory status (SoakEnd seed functions out status) → ImageEnd defaults (soak_text seed functions) Every Every out status
  image_end status (inl z) = no_memory z
  image_end status (inr (reported lines z h)) =
      let i = h.trial.is_image in
      output z (λ file is_file sized. same_file (Fits defaults) i.file file i.is_file is_file (h.image, (i.made.made, i.fits)))
  image_end status (inr (unreported large z h)) =
      let of = large_of defaults large (soak_text seed functions) h in
      passed z (λ file is_file ask. (tt, same_file (IsPassed defaults) of.0 file of.1.0 is_file of.1.1))

  pub soak-complete : (status : ℕ) → OrNoMemory status (SoakEnd seed functions out status) → SoakComplete seed functions out status
  soak-complete status e = record {
    accepted = accepted_end status e;
    image = image-complete defaults (soak_text seed functions) Every Every (λ file sized. tt) out status (image_end status e);
  }
