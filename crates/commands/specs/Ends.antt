-- How a call of the program ends, status by status.
use Rattle.std.specs.Prelude.{⊤, ℕ, List}
use Rattle.bs_fault.specs.FaultLines.{fault_line}
use Rattle.bs_fault.specs.Lines.{usage_line, large_line, image_line}
use Rattle.bs_fault.specs.declared.fault.Fault.{Fault}
use Rattle.bs_fault.specs.declared.image.ImageRefusal.{ImageRefusal}
use Rattle.bs_fault.specs.declared.large.Large.{Large}
use Rattle.bs_fault.specs.declared.usage.Usage.TheVariants.{Words, ValueText, UnknownEntry, ArgumentUnfit}
use Rattle.choices.specs.declared.choices.Choices.{Choices}
use Rattle.choices.specs.Defaults.{defaults}
use Rattle.command_line.specs.Command.{IsCommand, AsksToCompile, CommandTree, RunCommand, CheckCommand, ListCommand, SoakCommand, RunTree, CheckTree}
use Rattle.command_line.specs.Words.{AreCommandWords}
use Rattle.cmm_front.specs.FileOf.{HasFault}
use Rattle.stages.specs.Image.{IsOfImage}
use Rattle.image_form.specs.Image.{tables_bytes}
use Rattle.image_form.specs.Tables.{Tables}
use Rattle.stages.specs.declared.stage.Stage.{Stage}
use Rattle.text_commands.specs.Check.{IsCheckOf, HasNoEntry, IsUnfitFor, IsTooLargeToCheck}
use Rattle.text_commands.specs.Compile.{IsImageOf, IsTooLarge}
use Rattle.text_commands.specs.Listing.{IsListingOf}
use Rattle.commands.specs.Compile.{ReadsText}
use Rattle.commands.specs.Effects.{Effects, Side, Rose, IsUntouched, Got, GotPart}
use Rattle.commands.specs.Lines.{read_fault_line, no_memory_line}
use Rattle.commands.specs.Run.{IsOutcomeOf, ReadsNoImage, NamesNoEntry, GivesUnfit}
use Rattle.commands.specs.Soak.{soak_text, IsSoakOf}

-- What goes to out.
pub data Output (words : List (List ℕ)) (source : Side) : List ℕ → Type 0 where
  -- `compile`: the one spelling of an image of the text, by what the words choose
  spelling : (choices : Choices) (image : Tables)
      → AsksToCompile words choices
      → ReadsText (λ text. IsImageOf choices text image) source
      → Output words source (tables_bytes image)
  -- `run`: the outcome of the run of the image
  outcome : (run : RunTree) (text : List ℕ)
      → IsCommand words (RunCommand run)
      → IsOutcomeOf run source text
      → Output words source text
  -- `check`: the outcome of the run of the text, and what it needs of stack, heap and fuel
  checked : (check : CheckTree) (lines : List ℕ)
      → IsCommand words (CheckCommand check)
      → ReadsText (λ text. IsCheckOf check text lines) source
      → Output words source lines
  -- `list`: the text of that stage of the text, by what the words choose
  listed : (choices : Choices) (stage : Stage) (bytes : List ℕ)
      → IsCommand words (ListCommand choices stage)
      → ReadsText (λ text. IsListingOf choices stage text bytes) source
      → Output words source bytes
  -- `soak`: what is reported of the text that is drawn; nothing was read
  soaked : (seed functions : ℕ) (lines : List ℕ)
      → IsCommand words (SoakCommand seed functions)
      → IsSoakOf seed functions lines
      → IsUntouched source
      → Output words source lines

-- Why `check` has no output, in the order in which the causes are looked for.
pub data CheckCause (check : CheckTree) (source : Side) : ℕ → List ℕ → Type 0 where
  fault : (told : Fault)
      → ReadsText (λ text. HasFault text told) source
      → CheckCause check source 3 (fault_line told)
  no_entry : ReadsText (HasNoEntry check) source → CheckCause check source 2 (usage_line UnknownEntry)
  unfit : ReadsText (IsUnfitFor check) source → CheckCause check source 2 (usage_line ArgumentUnfit)
  too_large : (large : Large)
      → ReadsText (λ text. IsTooLargeToCheck check text large) source
      → CheckCause check source 8 (large_line large)

-- Why `list` has no output. The size of the image is a cause for a stage of the image alone.
pub data ListCause (choices : Choices) (stage : Stage) (source : Side) : ℕ → List ℕ → Type 0 where
  fault : (told : Fault)
      → ReadsText (λ text. HasFault text told) source
      → ListCause choices stage source 3 (fault_line told)
  too_large : (large : Large)
      → IsOfImage stage
      → ReadsText (λ text. IsTooLarge choices text large) source
      → ListCause choices stage source 8 (large_line large)

-- the command has input
abbrev pub HasInput : CommandTree → Type 0
HasInput (SoakCommand seed functions) = ⊥
HasInput _ = ⊤

-- Why there is no output: the status that reports it, and the line.
pub data Cause (words : List (List ℕ)) (source : Side) : ℕ → List ℕ → Type 0 where
  -- the words do not have the form of a command, or have a value that no command has; nothing was
  -- read
  no_command : (AreCommandWords words → ⊥) → IsUntouched source → Cause words source 2 (usage_line Words)
  no_value : AreCommandWords words
      → ((command : CommandTree) → IsCommand words command → ⊥)
      → IsUntouched source
      → Cause words source 2 (usage_line ValueText)
  read_fault : (command : CommandTree)
      → IsCommand words command
      → HasInput command
      → Rose source
      → Cause words source 5 read_fault_line
  -- `compile`
  fault : (choices : Choices) (told : Fault)
      → AsksToCompile words choices
      → ReadsText (λ text. HasFault text told) source
      → Cause words source 3 (fault_line told)
  too_large : (choices : Choices) (large : Large)
      → AsksToCompile words choices
      → ReadsText (λ text. IsTooLarge choices text large) source
      → Cause words source 8 (large_line large)
  -- `run`
  no_image : (run : RunTree) (refusal : ImageRefusal)
      → IsCommand words (RunCommand run)
      → ReadsNoImage source refusal
      → Cause words source 4 (image_line refusal)
  no_entry : (run : RunTree)
      → IsCommand words (RunCommand run)
      → NamesNoEntry run source
      → Cause words source 2 (usage_line UnknownEntry)
  unfit : (run : RunTree)
      → IsCommand words (RunCommand run)
      → GivesUnfit run source
      → Cause words source 2 (usage_line ArgumentUnfit)
  -- `check`
  unchecked : (check : CheckTree) (status : ℕ) (line : List ℕ)
      → IsCommand words (CheckCommand check)
      → CheckCause check source status line
      → Cause words source status line
  -- `list`
  unlisted : (choices : Choices) (stage : Stage) (status : ℕ) (line : List ℕ)
      → IsCommand words (ListCommand choices stage)
      → ListCause choices stage source status line
      → Cause words source status line
  -- `soak`, none of whose words chooses: nothing was read
  unsoaked : (seed functions : ℕ) (large : Large)
      → IsCommand words (SoakCommand seed functions)
      → IsTooLarge defaults (soak_text seed functions) large
      → IsUntouched source
      → Cause words source 8 (large_line large)
  no_memory : Cause words source 9 no_memory_line

-- How a call ends.
-- It has one constructor for each way of ending, in place of a list of "exactly where" clauses. The exact
-- causes are read off: `Complete` says the other half.
pub data CommandEnds (words : List (List ℕ)) (e : Effects) : ℕ → Type 0 where
  -- out has the whole output, and err nothing
  written : (bytes : List ℕ)
      → Output words e.source bytes
      → Got e.out bytes
      → IsUntouched e.err
      → CommandEnds words e 0
  -- err has the line, and out nothing
  refused : (status : ℕ) (line : List ℕ)
      → Cause words e.source status line
      → IsUntouched e.out
      → Got e.err line
      → CommandEnds words e status
  -- a write failed: out has the front of the output, and err nothing
  out_fault : (bytes : List ℕ)
      → Output words e.source bytes
      → GotPart e.out bytes
      → IsUntouched e.err
      → CommandEnds words e 6
  -- or err has the front of the line, and out nothing
  err_fault : (status : ℕ) (line : List ℕ)
      → Cause words e.source status line
      → IsUntouched e.out
      → GotPart e.err line
      → CommandEnds words e 6
