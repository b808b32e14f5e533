-- How `check` ends, of a text that the source is known to hold.
use Rattle.std.proofs.Common.{◌≡◌, ℕ, List, Some, refl, inl, inr}
use Rattle.bs_fault.specs.declared.fault.Fault.{Fault}
use Rattle.bs_fault.specs.declared.large.Large.{Large}
use Rattle.cmm_front.specs.FileOf.{IsFileOf, HasFault}
use Rattle.cmm_tree.specs.Tree.{FileTree}
use Rattle.command_line.specs.Command.{CheckTree}
use Rattle.commands.proofs.Known.{named_none, call_unfit}
use Rattle.commands.specs.Known.{NamesNone, HasUnfit, IsCheckOf, HasNoEntry, IsUnfitFor, IsTooLargeToCheck}
use Rattle.commands.specs.Compile.{ReadsText}
use Rattle.cmmc_core.specs.Complete.{Is, AsksForCall, CheckComplete}
use Rattle.commands.specs.Effects.{Side}
use Rattle.commands.specs.Ends.{fault, no_entry, unfit, too_large}
use Rattle.cmmc_core.proofs.CommandEnd.{CheckEnd, answered, unanswered, OrNoMemory}
use Rattle.cmmc_core.proofs.ImageEnds.{ImageEnd, no_memory, output, passed, unasked, image-complete}
use Rattle.cmmc_core.proofs.TextKnown.{Fits, IsPassed, no_fault, no_file, read_same, file_has}

module _ (source out : Side) (text : List ℕ) (known : source.before ≡ Some text) (check : CheckTree) where
  abbrev told_of : (lines : List ℕ) (t : List ℕ) → IsCheckOf check t lines → (file : FileTree) × IsFileOf t file
  told_of lines t h = (h.file, h.is_file)

  abbrev unnamed_of : (t : List ℕ) → HasNoEntry check t → (file : FileTree) × IsFileOf t file
  unnamed_of t h = (h.file, h.is_file)

  abbrev unfit_of : (t : List ℕ) → IsUnfitFor check t → (file : FileTree) × IsFileOf t file
  unfit_of t h = (h.file, h.is_file)

  abbrev large_of : (large : Large) (t : List ℕ) → IsTooLargeToCheck check t large → (file : FileTree) × IsFileOf t file
  large_of large t h = (h.file, h.is_file)

  -- a text with a fault has no file
  faulty : (P : List ℕ → Type 0) (f : Fault) → HasFault text f → (of : (t : List ℕ) → P t → (file : FileTree) × IsFileOf t file) → ReadsText P source → ⊥
  faulty P f has of r = let o = of r.text r.holds in no_file source text known P f has r o.0 o.1

  fault_end : (status : ℕ) → OrNoMemory status (CheckEnd check source out status) → (f : Fault) → HasFault text f → Is 3 status
  fault_end status (inl z) f has = inr z
  fault_end status (inr (answered lines z r)) f has = absurd (faulty _ f has (told_of lines) r)
  fault_end status (inr (unanswered line (fault g r))) f has = inl refl
  fault_end status (inr (unanswered line (no_entry r))) f has = absurd (faulty _ f has unnamed_of r)
  fault_end status (inr (unanswered line (unfit r))) f has = absurd (faulty _ f has unfit_of r)
  fault_end status (inr (unanswered line (too_large large r))) f has = absurd (faulty _ f has (large_of large) r)

  entry_end : (status : ℕ) → OrNoMemory status (CheckEnd check source out status) → (file : FileTree) → IsFileOf text file → NamesNone file check.entry → Is 2 status
  entry_end status (inl z) file is_file none = inr z
  entry_end status (inr (answered lines z r)) file is_file none =
      let h = read_same source text known _ (λ f. NamesNone f check.entry) file is_file none (told_of lines) r in
      absurd (named_none check h.0.file h.0.entry h.0.args h.0.answers h.0.call h.1)
  entry_end status (inr (unanswered line (fault g r))) file is_file none = absurd (no_fault source text known file g is_file r)
  entry_end status (inr (unanswered line (no_entry r))) file is_file none = inl refl
  entry_end status (inr (unanswered line (unfit r))) file is_file none = inl refl
  entry_end status (inr (unanswered line (too_large large r))) file is_file none =
      let h = read_same source text known _ (λ f. NamesNone f check.entry) file is_file none (large_of large) r in
      absurd (named_none check h.0.file h.0.entry h.0.args h.0.answers h.0.call h.1)

  unfit_end : (status : ℕ) → OrNoMemory status (CheckEnd check source out status) → (file : FileTree) → IsFileOf text file → HasUnfit check file → Is 2 status
  unfit_end status (inl z) file is_file not = inr z
  unfit_end status (inr (answered lines z r)) file is_file not =
      let h = read_same source text known _ (HasUnfit check) file is_file not (told_of lines) r in
      absurd (call_unfit check h.0.file h.0.entry h.0.args h.0.answers h.0.call h.1)
  unfit_end status (inr (unanswered line (fault g r))) file is_file not = absurd (no_fault source text known file g is_file r)
  unfit_end status (inr (unanswered line (no_entry r))) file is_file not = inl refl
  unfit_end status (inr (unanswered line (unfit r))) file is_file not = inl refl
  unfit_end status (inr (unanswered line (too_large large r))) file is_file not =
      let h = read_same source text known _ (HasUnfit check) file is_file not (large_of large) r in
      absurd (call_unfit check h.0.file h.0.entry h.0.args h.0.answers h.0.call h.1)

  -- a file of which a function is called has one of that name, and the words suit it
  unnamed : (file : FileTree) → IsFileOf text file → AsksForCall check file → ReadsText (HasNoEntry check) source → ⊥
  unnamed file is_file c r =
      let h = read_same source text known _ (AsksForCall check) file is_file c unnamed_of r in
      named_none check h.0.file h.1.entry h.1.args h.1.answers h.1.call h.0.none

  misfits : (file : FileTree) → IsFileOf text file → AsksForCall check file → ReadsText (IsUnfitFor check) source → ⊥
  misfits file is_file c r =
      let h = read_same source text known _ (AsksForCall check) file is_file c unfit_of r in
      call_unfit check h.0.file h.1.entry h.1.args h.1.answers h.1.call h.0.unfit

  fits_of : (lines : List ℕ) (t : List ℕ) → IsCheckOf check t lines → (file : FileTree) × (IsFileOf t file × Fits check.choices file)
  fits_of lines t h = (h.file, (h.is_file, (h.image, (h.made.made, h.fits))))

  passed_of : (large : Large) (t : List ℕ) → IsTooLargeToCheck check t large → (file : FileTree) × (IsFileOf t file × IsPassed check.choices file)
  passed_of large t h = (h.file, (h.is_file, record { large = large; passes = (h.image, (h.made.made, h.passes)); not_roomy = h.not_roomy }))

  image_end : (status : ℕ) → OrNoMemory status (CheckEnd check source out status) → ImageEnd check.choices text (AsksForCall check) (AsksForCall check) out status
  image_end status (inl z) = no_memory z
  image_end status (inr (answered lines z r)) = output z (λ file is_file c. file_has source text known _ (Fits check.choices) file is_file (fits_of lines) r)
  image_end status (inr (unanswered line (fault g r))) = unasked (λ file is_file c. no_fault source text known file g is_file r)
  image_end status (inr (unanswered line (no_entry r))) = unasked (λ file is_file c. unnamed file is_file c r)
  image_end status (inr (unanswered line (unfit r))) = unasked (λ file is_file c. misfits file is_file c r)
  image_end status (inr (unanswered line (too_large large r))) =
      passed refl (λ file is_file c. (c, file_has source text known _ (IsPassed check.choices) file is_file (passed_of large) r))

  pub check-complete : (status : ℕ) → OrNoMemory status (CheckEnd check source out status) → CheckComplete check text out status
  check-complete status e = record {
    fault = fault_end status e;
    no_entry = entry_end status e;
    unfit = unfit_end status e;
    image = image-complete check.choices text (AsksForCall check) (AsksForCall check) (λ file c. c) out status (image_end status e);
  }
