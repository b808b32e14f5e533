-- How a call ends where the counts of the source and of err did not rise, by the command that its words are.
use Rattle.std.proofs.Common.{◌≡◌, ◌⊎◌, ℕ, List, refl, subst, inl, inr}
use Rattle.bs_fault.specs.declared.fault.Fault.{Fault}
use Rattle.bs_fault.specs.declared.image.ImageRefusal.{ImageRefusal}
use Rattle.bs_fault.specs.declared.large.Large.{Large}
use Rattle.choices.specs.declared.choices.Choices.{Choices}
use Rattle.choices.specs.Defaults.{defaults}
use Rattle.cmm_front.specs.FileOf.{HasFault}
use Rattle.command_line.proofs.Unique.{command-unique, command-formed}
use Rattle.command_line.specs.Command.{IsCommand, CommandTree, CompileCommand, RunCommand, CheckCommand, ListCommand, SoakCommand, RunTree, CheckTree}
use Rattle.command_line.specs.Words.{AreCommandWords}
use Rattle.image_form.specs.Tables.{Tables}
use Rattle.stages.specs.declared.stage.Stage.{Stage}
use Rattle.commands.specs.Known.{IsCheckOf, IsImageOf, IsTooLarge, IsListingOf}
use Rattle.commands.specs.Compile.{ReadsText}
use Rattle.cmmc_core.specs.Complete.{HasNotRisen, Is, HasOutput}
use Rattle.commands.specs.Effects.{Effects, Side, Rose}
use Rattle.commands.specs.Ends.{Output, spelling, outcome, checked, listed, soaked, HasInput, Cause, CheckCause, ListCause, no_command, no_value, read_fault, fault, too_large, no_image, no_entry, unfit, unchecked, unlisted, unsoaked, no_memory, CommandEnds, written, refused, out_fault, err_fault}
use Rattle.commands.specs.Run.{IsOutcomeOf, ReadsNoImage, NamesNoEntry, GivesUnfit}
use Rattle.commands.specs.Soak.{soak_text, IsSoakOf}

-- the output was written, or its write failed
abbrev pub IsWritten : Side → ℕ → Type 0
IsWritten out status = (status ≡ 0) ⊎ (Rose out × (status ≡ 6))

pub has_output : (out : Side) (status : ℕ) → IsWritten out status → HasOutput out status
has_output out status (inl z) = inl (inl z)
has_output out status (inr rose) = inr rose

pub no_output : (out : Side) (status : ℕ) → status ≡ 9 → HasOutput out status
no_output out status z = inl (inr z)

-- How a call ends where a line can be written: with its output, or with a cause.
pub data Told (words : List (List ℕ)) (source out : Side) (status : ℕ) : Type 0 where
  output : (bytes : List ℕ) → IsWritten out status → Output words source bytes → Told words source out status
  cause : (line : List ℕ) → Cause words source status line → Told words source out status

pub told : (words : List (List ℕ)) (e : Effects) (status : ℕ) → CommandEnds words e status → HasNotRisen e.err → Told words e.source e.out status
told words e status (written bytes o got kept) calm = output bytes (inl refl) o
told words e status (refused s line why kept got) calm = cause line why
told words e status (out_fault bytes o part kept) calm = output bytes (inr (part.rose, refl)) o
told words e status (err_fault s line why kept part) calm = absurd (calm part.rose)

-- ---- the commands, one by one, but for want of memory

pub data CompileEnd (choices : Choices) (source out : Side) (status : ℕ) : Type 0 where
  made : (image : Tables) → IsWritten out status → ReadsText (λ text. IsImageOf choices text image) source → CompileEnd choices source out status
  faulty : (f : Fault) → status ≡ 3 → ReadsText (λ text. HasFault text f) source → CompileEnd choices source out status
  passing : (large : Large) → status ≡ 8 → ReadsText (λ text. IsTooLarge choices text large) source → CompileEnd choices source out status

pub data RunEnd (run : RunTree) (source out : Side) (status : ℕ) : Type 0 where
  ran : (text : List ℕ) → IsWritten out status → IsOutcomeOf run source text → RunEnd run source out status
  imageless : (refusal : ImageRefusal) → status ≡ 4 → ReadsNoImage source refusal → RunEnd run source out status
  unnamed : status ≡ 2 → NamesNoEntry run source → RunEnd run source out status
  unsuited : status ≡ 2 → GivesUnfit run source → RunEnd run source out status

pub data CheckEnd (check : CheckTree) (source out : Side) (status : ℕ) : Type 0 where
  answered : (lines : List ℕ) → IsWritten out status → ReadsText (λ text. IsCheckOf check text lines) source → CheckEnd check source out status
  unanswered : (line : List ℕ) → CheckCause check source status line → CheckEnd check source out status

pub data ListEnd (choices : Choices) (stage : Stage) (source out : Side) (status : ℕ) : Type 0 where
  shown : (bytes : List ℕ) → IsWritten out status → ReadsText (λ text. IsListingOf choices stage text bytes) source → ListEnd choices stage source out status
  unshown : (line : List ℕ) → ListCause choices stage source status line → ListEnd choices stage source out status

pub data SoakEnd (seed functions : ℕ) (out : Side) (status : ℕ) : Type 0 where
  reported : (lines : List ℕ) → IsWritten out status → IsSoakOf seed functions lines → SoakEnd seed functions out status
  unreported : (large : Large) → status ≡ 8 → IsTooLarge defaults (soak_text seed functions) large → SoakEnd seed functions out status

abbrev pub CommandEnd : CommandTree → Side → Side → ℕ → Type 0
CommandEnd (CompileCommand choices jobs) source out status = CompileEnd choices source out status
CommandEnd (RunCommand run) source out status = RunEnd run source out status
CommandEnd (CheckCommand check) source out status = CheckEnd check source out status
CommandEnd (ListCommand choices stage) source out status = ListEnd choices stage source out status
CommandEnd (SoakCommand seed functions) source out status = SoakEnd seed functions out status

-- either there was no memory, or this
abbrev pub OrNoMemory : ℕ → Type 0 → Type 0
OrNoMemory status End = (status ≡ 9) ⊎ End

module _ (words : List (List ℕ)) (source out : Side) where
  -- the words are one command: they do not end as another
  one_command : (status : ℕ) (tree other : CommandTree) → IsCommand words tree → IsCommand words other → CommandEnd other source out status
      → OrNoMemory status (CommandEnd tree source out status)
  one_command status tree other is as_other e =
      inr (subst (λ t. CommandEnd t source out status) (command-unique words other tree as_other is) e)

  pub command_end : (tree : CommandTree) → IsCommand words tree → (HasInput tree → HasNotRisen source) → (status : ℕ) → Told words source out status
      → OrNoMemory status (CommandEnd tree source out status)
  command_end tree is calm status (output bytes z (spelling choices image i r)) = one_command status tree (CompileCommand choices i.0) is i.1 (made image z r)
  command_end tree is calm status (output bytes z (outcome run text i r)) = one_command status tree (RunCommand run) is i (ran text z r)
  command_end tree is calm status (output bytes z (checked check lines i r)) = one_command status tree (CheckCommand check) is i (answered lines z r)
  command_end tree is calm status (output bytes z (listed choices stage text i r)) = one_command status tree (ListCommand choices stage) is i (shown text z r)
  command_end tree is calm status (output bytes z (soaked seed functions lines i r k)) =
      one_command status tree (SoakCommand seed functions) is i (reported lines z r)
  command_end tree is calm status (cause line (no_command n k)) = absurd (n (command-formed words tree is))
  command_end tree is calm status (cause line (no_value w n k)) = absurd (n tree is)
  command_end tree is calm status (cause line (read_fault c i h r)) = absurd (calm (subst HasInput (command-unique words c tree i is) h) r)
  command_end tree is calm status (cause line (fault choices f i r)) = one_command 3 tree (CompileCommand choices i.0) is i.1 (faulty f refl r)
  command_end tree is calm status (cause line (too_large choices large i r)) = one_command 8 tree (CompileCommand choices i.0) is i.1 (passing large refl r)
  command_end tree is calm status (cause line (no_image run refusal i r)) = one_command 4 tree (RunCommand run) is i (imageless refusal refl r)
  command_end tree is calm status (cause line (no_entry run i r)) = one_command 2 tree (RunCommand run) is i (unnamed refl r)
  command_end tree is calm status (cause line (unfit run i r)) = one_command 2 tree (RunCommand run) is i (unsuited refl r)
  command_end tree is calm status (cause line (unchecked check s l i r)) = one_command s tree (CheckCommand check) is i (unanswered l r)
  command_end tree is calm status (cause line (unlisted choices stage s l i r)) = one_command s tree (ListCommand choices stage) is i (unshown l r)
  command_end tree is calm status (cause line (unsoaked seed functions large i r k)) =
      one_command 8 tree (SoakCommand seed functions) is i (unreported large refl r)
  command_end tree is calm status (cause line no_memory) = inl refl

  -- ---- words that are no command

  pub no_value_end : (status : ℕ) → Told words source out status → ((tree : CommandTree) → IsCommand words tree → ⊥) → Is 2 status
  no_value_end status (output bytes z (spelling choices image i r)) not = absurd (not (CompileCommand choices i.0) i.1)
  no_value_end status (output bytes z (outcome run text i r)) not = absurd (not (RunCommand run) i)
  no_value_end status (output bytes z (checked check lines i r)) not = absurd (not (CheckCommand check) i)
  no_value_end status (output bytes z (listed choices stage text i r)) not = absurd (not (ListCommand choices stage) i)
  no_value_end status (output bytes z (soaked seed functions lines i r k)) not = absurd (not (SoakCommand seed functions) i)
  no_value_end status (cause line (no_command n k)) not = inl refl
  no_value_end status (cause line (no_value w n k)) not = inl refl
  no_value_end status (cause line (read_fault c i h r)) not = absurd (not c i)
  no_value_end status (cause line (fault choices f i r)) not = absurd (not (CompileCommand choices i.0) i.1)
  no_value_end status (cause line (too_large choices large i r)) not = absurd (not (CompileCommand choices i.0) i.1)
  no_value_end status (cause line (no_image run refusal i r)) not = absurd (not (RunCommand run) i)
  no_value_end status (cause line (no_entry run i r)) not = absurd (not (RunCommand run) i)
  no_value_end status (cause line (unfit run i r)) not = absurd (not (RunCommand run) i)
  no_value_end status (cause line (unchecked check s l i r)) not = absurd (not (CheckCommand check) i)
  no_value_end status (cause line (unlisted choices stage s l i r)) not = absurd (not (ListCommand choices stage) i)
  no_value_end status (cause line (unsoaked seed functions large i r k)) not = absurd (not (SoakCommand seed functions) i)
  no_value_end status (cause line no_memory) not = inr refl

  -- words of another form are no command
  pub no_command_end : (status : ℕ) → Told words source out status → (AreCommandWords words → ⊥) → Is 2 status
  no_command_end status told not = no_value_end status told (λ tree i. not (command-formed words tree i))
