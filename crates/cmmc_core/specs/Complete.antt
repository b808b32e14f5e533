-- That nothing but want of memory, an image past its limit, or a read or a write that failed, comes
-- between good input and its output, and between bad input and its line.
use Rattle.std.specs.Prelude.{⊤, ◌≡◌, ◌⊎◌, ℕ, List, Some, None}
use Rattle.bs_fault.specs.declared.fault.Fault.{Fault}
use Rattle.bs_fault.specs.declared.large.Large.{Large}
use Rattle.choices.specs.declared.choices.Choices.{Choices}
use Rattle.choices.specs.Defaults.{defaults}
use Rattle.cmm_front.specs.FileOf.{IsFileOf, HasFault}
use Rattle.cmm_tree.specs.Tree.{FileTree}
use Rattle.command_line.specs.Command.{IsCommand, AsksToCompile, CommandTree, RunCommand, CheckCommand, ListCommand, SoakCommand, RunTree, CheckTree}
use Rattle.command_line.specs.Words.{AreCommandWords}
use Rattle.correctness.specs.Bounds.{IsRoomy}
use Rattle.stages.specs.Image.{IsOfImage}
use Rattle.image_form.specs.Tables.{Tables, Func}
use Rattle.rv_layout_rules.specs.TooLarge.{first_too_large}
use Rattle.commands.specs.Known.{AreTablesMadeFor, NamesNone, HasUnfit, IsCall}
use Rattle.rv_machine.specs.Loading.{func_named, words_of_args}
use Rattle.stages.specs.declared.stage.Stage.{Stage}
use Rattle.commands.specs.Effects.{Effects, Side, Rose}
use Rattle.commands.specs.Run.{IsSpelling, words_of_answers}
use Rattle.commands.specs.Soak.{soak_text}

-- Its count of faults did not rise in the call, and is not the greatest there is: so no read of it
-- failed, and no write to it.
abbrev pub HasNotRisen : Side → Type 0
HasNotRisen side = Rose side → ⊥

-- One status, but for want of memory.
abbrev pub Is : ℕ → ℕ → Type 0
Is wanted status = (status ≡ wanted) ⊎ (status ≡ 9)

-- There is an output: status 0, but for want of memory, or 6, which comes only where out's count rose.
abbrev pub HasOutput : Side → ℕ → Type 0
HasOutput out status = Is 0 status ⊎ (Rose out × (status ≡ 6))

-- ---- texts

-- What a command comes to by the image that is made for the text's file by what is chosen, where it is
-- asked of that file. Where the command needs an image that fits (`IsSized`), and it does not, the status is 8.
-- That a text without a fault gives 0, 8, 9 or 6 is said for itself (`accepted`): clauses over the image
-- that is made do not say that there is one.
pub record ImageComplete
    (choices : Choices) (text : List ℕ) (IsAsked IsSized : FileTree → Type 0) (out : Side) (status : ℕ)
    : Type 0 where
  -- there is an output, or the image of the file must fit, and a section of it passes its limit
  pub accepted : (file : FileTree)
      → IsFileOf text file
      → IsAsked file
      → HasOutput out status ⊎ (IsSized file × (status ≡ 8))
  -- where the image fits, there is an output
  pub fits : (file : FileTree) (image : Tables)
      → IsFileOf text file
      → IsAsked file
      → AreTablesMadeFor choices file image
      → first_too_large image ≡ None
      → HasOutput out status
  pub roomy : (file : FileTree)
      → IsFileOf text file
      → IsAsked file
      → IsRoomy file
      → HasOutput out status
  pub too_large : (file : FileTree) (image : Tables) (large : Large)
      → IsFileOf text file
      → IsSized file
      → AreTablesMadeFor choices file image
      → first_too_large image ≡ Some large
      → Is 8 status

-- the command is asked of every file
abbrev pub Every : FileTree → Type 0
Every file = ⊤

-- What `compile` comes to on a text that the source is known to hold.
pub record CompileComplete (choices : Choices) (text : List ℕ) (out : Side) (status : ℕ) : Type 0 where
  pub fault : (told : Fault) → HasFault text told → Is 3 status
  -- a text without a fault is compiled, or a section of its image passes its limit
  pub image : ImageComplete choices text Every Every out status

-- What `run` comes to on bytes that the source is known to hold.
pub record RunComplete (run : RunTree) (bytes : List ℕ) (out : Side) (status : ℕ) : Type 0 where
  -- an image whose entry, arguments and answers suit is run, whatever becomes of the run
  pub outcome : (image : Tables) (entry : Func) (args answers : List ℕ)
      → IsSpelling bytes image
      → func_named run.entry image.funcs ≡ Some entry
      → words_of_args image entry.params run.args ≡ Some args
      → words_of_answers image run.answers ≡ Some answers
      → HasOutput out status
  pub no_entry : (image : Tables)
      → IsSpelling bytes image
      → func_named run.entry image.funcs ≡ None
      → Is 2 status
  pub unfit_args : (image : Tables) (entry : Func)
      → IsSpelling bytes image
      → func_named run.entry image.funcs ≡ Some entry
      → words_of_args image entry.params run.args ≡ None
      → Is 2 status
  pub unfit_answers : (image : Tables) (entry : Func)
      → IsSpelling bytes image
      → func_named run.entry image.funcs ≡ Some entry
      → words_of_answers image run.answers ≡ None
      → Is 2 status
  pub no_image : ((image : Tables) → IsSpelling bytes image → ⊥) → Is 4 status

-- The words ask for a call of a function of the file.
pub record AsksForCall (check : CheckTree) (file : FileTree) : Type 0 where
  pub entry : ℕ
  pub args : List ℕ
  pub answers : List ℕ
  pub call : IsCall check file entry args answers

-- What `check` comes to on a text that the source is known to hold.
pub record CheckComplete (check : CheckTree) (text : List ℕ) (out : Side) (status : ℕ) : Type 0 where
  pub fault : (told : Fault) → HasFault text told → Is 3 status
  pub no_entry : (file : FileTree)
      → IsFileOf text file
      → NamesNone file check.entry
      → Is 2 status
  pub unfit : (file : FileTree) → IsFileOf text file → HasUnfit check file → Is 2 status
  -- a call that suits is run, whatever becomes of the run
  pub image : ImageComplete check.choices text (AsksForCall check) (AsksForCall check) out status

-- What `list` comes to on a text that the source is known to hold.
pub record ListComplete (choices : Choices) (stage : Stage) (text : List ℕ) (out : Side) (status : ℕ) : Type 0 where
  pub fault : (told : Fault) → HasFault text told → Is 3 status
  -- a text without a fault is listed; only a stage of the image asks that it fits
  pub image : ImageComplete choices text Every (λ file. IsOfImage stage) out status

-- What `soak` comes to. The text that is drawn has no fault. None of the words chooses.
pub record SoakComplete (seed functions : ℕ) (out : Side) (status : ℕ) : Type 0 where
  -- it is tried, whatever becomes of the runs, or a section of its image passes its limit
  pub accepted : HasOutput out status ⊎ (status ≡ 8)
  pub image : ImageComplete defaults (soak_text seed functions) Every Every out status

-- The words and what the source is known to hold give the status, but for want of memory. A fault of
-- out matters only where there is an output, and one of the source only where it is read.
-- A fault of err matters always, since want of memory has a line too.
pub record Complete (words : List (List ℕ)) (e : Effects) (status : ℕ) : Type 0 where
  pub no_command : (AreCommandWords words → ⊥) → HasNotRisen e.err → Is 2 status
  pub no_value : ((command : CommandTree) → IsCommand words command → ⊥)
      → HasNotRisen e.err
      → Is 2 status
  pub compile : (choices : Choices)
      → AsksToCompile words choices
      → HasNotRisen e.source
      → HasNotRisen e.err
      → (text : List ℕ)
      → e.source.before ≡ Some text
      → CompileComplete choices text e.out status
  pub run : (run : RunTree)
      → IsCommand words (RunCommand run)
      → HasNotRisen e.source
      → HasNotRisen e.err
      → (bytes : List ℕ)
      → e.source.before ≡ Some bytes
      → RunComplete run bytes e.out status
  pub check : (check : CheckTree)
      → IsCommand words (CheckCommand check)
      → HasNotRisen e.source
      → HasNotRisen e.err
      → (text : List ℕ)
      → e.source.before ≡ Some text
      → CheckComplete check text e.out status
  pub list : (choices : Choices) (stage : Stage)
      → IsCommand words (ListCommand choices stage)
      → HasNotRisen e.source
      → HasNotRisen e.err
      → (text : List ℕ)
      → e.source.before ≡ Some text
      → ListComplete choices stage text e.out status
  pub soak : (seed functions : ℕ)
      → IsCommand words (SoakCommand seed functions)
      → HasNotRisen e.err
      → SoakComplete seed functions e.out status
