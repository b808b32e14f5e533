-- What the parts of the program answer one another.
use Rattle.std.specs.Prelude.{◌≡◌, ◌⊎◌, ⊤, ℕ, List, None}
use Rattle.bs_fault.specs.FaultLines.{fault_line}
use Rattle.bs_fault.specs.Lines.{usage_line, large_line}
use Rattle.bs_fault.specs.declared.usage.Usage.TheVariants.{UnknownEntry, ArgumentUnfit}
use Rattle.choices.specs.declared.choices.Choices.{Choices}
use Rattle.choices.specs.Defaults.{defaults}
use Rattle.command_line.specs.Command.{RunTree, CheckTree}
use Rattle.image_form.specs.Tables.{Tables}
use Rattle.image_form.specs.declared.fault.ImageError.{ImageError}
use Rattle.image_form.specs.declared.fault.ImageError.TheVariants as image_error
use Rattle.rv_machine.specs.Loading.{func_named}
use Rattle.rv_machine.specs.declared.setup.LoadError.{LoadError}
use Rattle.rv_machine.specs.declared.setup.LoadError.TheVariants as load_error
use Rattle.cmm_front.specs.FileOf.{HasFault}
use Rattle.stages.specs.Image.{IsOfImage}
use Rattle.stages.specs.declared.stage.Stage.{Stage}
use Rattle.text_commands.specs.Check.{HasNoEntry, IsUnfitFor, IsTooLargeToCheck}
use Rattle.text_commands.specs.declared.check.CheckRefusal as check
use Rattle.text_commands.specs.declared.check.CheckRefusal.TheVariants as checked
use Rattle.text_commands.specs.Compile.{IsTooLarge}
use Rattle.text_commands.specs.declared.compile.Refusal as text
use Rattle.text_commands.specs.declared.compile.Refusal.TheVariants.{Fault, TooLarge, OutOfMemory}
use Rattle.commands.specs.Compile.{ReadsText}
use Rattle.commands.specs.Effects.{Side, Rose, ReportsLine, IsUntouched, Got, GotPart}
use Rattle.commands.specs.Lines.{no_memory_line}
use Rattle.commands.specs.Run.{IsRunText, IsOutcomeOf, IsUnfit, ReadsNoImage, NamesNoEntry, GivesUnfit}
use Rattle.commands.specs.Soak.{soak_text}
use Rattle.commands.specs.declared.soak.SoakRefusal.{SoakRefusal}
use Rattle.commands.specs.declared.soak.SoakRefusal.TheVariants as soak
use Rattle.commands.specs.declared.check.CheckFailure.{CheckFailure}
use Rattle.commands.specs.declared.check.CheckFailure.TheVariants as failure
use Rattle.commands.specs.declared.text.Unread.{Unread}
use Rattle.commands.specs.declared.text.Unread.TheVariants as unread
use Rattle.commands.specs.declared.compile.Refusal.{Refusal}
use Rattle.commands.specs.declared.compile.Refusal.TheVariants.{ReadFault, Text}
use Rattle.commands.specs.declared.run.RunRefusal.{RunRefusal}
use Rattle.commands.specs.declared.run.RunRefusal.TheVariants as refusal

-- ---- texts

-- why a text was not read
abbrev pub IsTextUnread : Side → Unread → Type 0
IsTextUnread source unread.ReadFault = Rose source
IsTextUnread source unread.OutOfMemory = ⊤

-- ---- compile

-- why the text that was read has no image; want of memory may come before all is read
abbrev pub IsRefusalRead : Choices → Side → text.Refusal → Type 0
IsRefusalRead choices source (Fault told) = ReadsText (λ text. HasFault text told) source
IsRefusalRead choices source (TooLarge large) = ReadsText (λ text. IsTooLarge choices text large) source
IsRefusalRead choices source OutOfMemory = ⊤

-- what is answered where no text was read
abbrev pub refusal_of_unread : Unread → Refusal
refusal_of_unread unread.ReadFault = ReadFault
refusal_of_unread unread.OutOfMemory = Text OutOfMemory

-- why a source has no image
abbrev pub IsRefusalFrom : Choices → Side → Refusal → Type 0
IsRefusalFrom choices source ReadFault = Rose source
IsRefusalFrom choices source (Text why) = IsRefusalRead choices source why

-- ---- list

-- why nothing is listed of the text that was read
abbrev pub IsListRefusalRead : Choices → Stage → Side → text.Refusal → Type 0
IsListRefusalRead choices stage source (Fault told) = ReadsText (λ text. HasFault text told) source
IsListRefusalRead choices stage source (TooLarge large) =
    IsOfImage stage × ReadsText (λ text. IsTooLarge choices text large) source
IsListRefusalRead choices stage source OutOfMemory = ⊤

-- why nothing is listed of a source
abbrev pub IsListFailure : Choices → Stage → Side → Refusal → Type 0
IsListFailure choices stage source ReadFault = Rose source
IsListFailure choices stage source (Text why) = IsListRefusalRead choices stage source why

-- ---- soak

-- why nothing is reported of the text that is drawn
abbrev pub IsSoakRefusal : ℕ → ℕ → SoakRefusal → Type 0
IsSoakRefusal seed functions (soak.TooLarge large) = IsTooLarge defaults (soak_text seed functions) large
IsSoakRefusal seed functions soak.OutOfMemory = ⊤

-- ---- check

-- why nothing is reported of a run of the text that was read
abbrev pub IsCheckRefusalRead : CheckTree → Side → check.CheckRefusal → Type 0
IsCheckRefusalRead check source (checked.Fault told) = ReadsText (λ text. HasFault text told) source
IsCheckRefusalRead check source checked.UnknownEntry = ReadsText (HasNoEntry check) source
IsCheckRefusalRead check source checked.ArgumentUnfit = ReadsText (IsUnfitFor check) source
IsCheckRefusalRead check source (checked.TooLarge large) =
    ReadsText (λ text. IsTooLargeToCheck check text large) source
IsCheckRefusalRead check source checked.OutOfMemory = ⊤

-- what is answered where no text was read
abbrev pub failure_of_unread : Unread → CheckFailure
failure_of_unread unread.ReadFault = failure.ReadFault
failure_of_unread unread.OutOfMemory = failure.Text checked.OutOfMemory

-- why nothing is reported of a source
abbrev pub IsCheckFailure : CheckTree → Side → CheckFailure → Type 0
IsCheckFailure check source failure.ReadFault = Rose source
IsCheckFailure check source (failure.Text why) = IsCheckRefusalRead check source why

-- ---- run

-- what is answered where no image was read
abbrev pub refusal_of_image : ImageError → RunRefusal
refusal_of_image (image_error.Refused why) = refusal.Image why
refusal_of_image image_error.OutOfMemory = refusal.OutOfMemory

-- what is answered where no machine was loaded
abbrev pub refusal_of_load : LoadError → RunRefusal
refusal_of_load load_error.UnknownEntry = refusal.UnknownEntry
refusal_of_load load_error.ArgumentUnfit = refusal.ArgumentUnfit
refusal_of_load load_error.OutOfMemory = refusal.OutOfMemory

-- why an image is not loaded for a run
abbrev pub IsLoadRefusal : RunTree → Tables → RunRefusal → Type 0
IsLoadRefusal run image refusal.ReadFault = ⊥
IsLoadRefusal run image (refusal.Image why) = ⊥
IsLoadRefusal run image refusal.UnknownEntry = func_named run.entry image.funcs ≡ None
IsLoadRefusal run image refusal.ArgumentUnfit = IsUnfit run image
IsLoadRefusal run image refusal.WriteFault = ⊥
IsLoadRefusal run image refusal.OutOfMemory = ⊤

-- out has the outcome
pub record WritesRun (run : RunTree) (image : Tables) (out : Side) : Type 0 where
  pub text : List ℕ
  pub is_text : IsRunText run image text
  pub got : Got out text

-- out has the front of the outcome
pub record CutsRun (run : RunTree) (image : Tables) (out : Side) : Type 0 where
  pub text : List ℕ
  pub is_text : IsRunText run image text
  pub got : GotPart out text

-- why an image has no outcome, or not the whole of it on out
abbrev pub IsRunRefusal : RunTree → Tables → Side → RunRefusal → Type 0
IsRunRefusal run image out refusal.ReadFault = ⊥
IsRunRefusal run image out (refusal.Image why) = ⊥
IsRunRefusal run image out refusal.UnknownEntry =
    IsUntouched out × (func_named run.entry image.funcs ≡ None)
IsRunRefusal run image out refusal.ArgumentUnfit = IsUntouched out × IsUnfit run image
IsRunRefusal run image out refusal.WriteFault = CutsRun run image out
IsRunRefusal run image out refusal.OutOfMemory = IsUntouched out

-- the outcome of the run of the image that was read is on out
pub record WritesOutcome (run : RunTree) (source out : Side) : Type 0 where
  pub text : List ℕ
  pub is_outcome : IsOutcomeOf run source text
  pub got : Got out text

pub record CutsOutcome (run : RunTree) (source out : Side) : Type 0 where
  pub text : List ℕ
  pub is_outcome : IsOutcomeOf run source text
  pub got : GotPart out text

-- why a source has no outcome, or not the whole of it on out
abbrev pub IsRunRefusalFrom : RunTree → Side → Side → RunRefusal → Type 0
IsRunRefusalFrom run source out refusal.ReadFault = IsUntouched out × Rose source
IsRunRefusalFrom run source out (refusal.Image why) = IsUntouched out × ReadsNoImage source why
IsRunRefusalFrom run source out refusal.UnknownEntry = IsUntouched out × NamesNoEntry run source
IsRunRefusalFrom run source out refusal.ArgumentUnfit = IsUntouched out × GivesUnfit run source
IsRunRefusalFrom run source out refusal.WriteFault = CutsOutcome run source out
IsRunRefusalFrom run source out refusal.OutOfMemory = IsUntouched out

-- why nothing was read
abbrev pub IsUnread : Side → RunRefusal → Type 0
IsUnread source refusal.ReadFault = Rose source
IsUnread source (refusal.Image why) = ⊥
IsUnread source refusal.UnknownEntry = ⊥
IsUnread source refusal.ArgumentUnfit = ⊥
IsUnread source refusal.WriteFault = ⊥
IsUnread source refusal.OutOfMemory = ⊤

-- ---- lines for which there may be no memory

-- the line was reported, or that there is no memory for it
abbrev pub ReportsOr : Side → List ℕ → ℕ → ℕ → Type 0
ReportsOr err line status result = ReportsLine err line status result ⊎ ReportsLine err no_memory_line 9 result

-- the line of a text that has no image
abbrev pub ReportsRefusal : Side → text.Refusal → ℕ → Type 0
ReportsRefusal err (Fault told) result = ReportsOr err (fault_line told) 3 result
ReportsRefusal err (TooLarge large) result = ReportsOr err (large_line large) 8 result
ReportsRefusal err OutOfMemory result = ReportsLine err no_memory_line 9 result

-- the line of a text that is drawn, of which nothing is reported
abbrev pub ReportsSoakRefusal : Side → SoakRefusal → ℕ → Type 0
ReportsSoakRefusal err (soak.TooLarge large) result = ReportsOr err (large_line large) 8 result
ReportsSoakRefusal err soak.OutOfMemory result = ReportsLine err no_memory_line 9 result

-- the line of a text of whose run nothing is reported
abbrev pub ReportsCheckRefusal : Side → check.CheckRefusal → ℕ → Type 0
ReportsCheckRefusal err (checked.Fault told) result = ReportsOr err (fault_line told) 3 result
ReportsCheckRefusal err checked.UnknownEntry result = ReportsLine err (usage_line UnknownEntry) 2 result
ReportsCheckRefusal err checked.ArgumentUnfit result = ReportsLine err (usage_line ArgumentUnfit) 2 result
ReportsCheckRefusal err (checked.TooLarge large) result = ReportsOr err (large_line large) 8 result
ReportsCheckRefusal err checked.OutOfMemory result = ReportsLine err no_memory_line 9 result
