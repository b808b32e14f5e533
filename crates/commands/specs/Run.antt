-- What the command `run` does.
use Rattle.std.specs.Prelude.{◌≡◌, ◌⊎◌, ℕ, List, [], ◌∷◌, Option, Some, None, Err}
use Rattle.bs_fault.specs.declared.image.ImageRefusal.{ImageRefusal}
use Rattle.command_line.specs.Command.{RunTree}
use Rattle.command_line.specs.declared.command.Moves.{Moves}
use Rattle.command_line.specs.declared.command.Moves.TheVariants.{Never, Every, Seed}
use Rattle.image_form.specs.Image.{AreTables, tables_bytes}
use Rattle.image_codec.specs.Reading.{image_reading}
use Rattle.image_form.specs.Tables.{Tables, Func}
use Rattle.mover_plans.specs.Schedules.{never, every, seeded}
use Rattle.rv_machine.specs.Hart.{Hart}
use Rattle.rv_machine.specs.Loading.{func_named, word_of_arg, before_words, words_of_args}
use Rattle.rv_machine.specs.Run.{Schedule, machine_run}
use Rattle.rv_machine.specs.Start.{start}
use Rattle.rv_machine.specs.Text.{outcome_text}
use Rattle.rv_machine.specs.declared.setup.Arg.{Arg}
use Rattle.commands.specs.Effects.{Side, IsRead}

-- the most bytes of an image
abbrev pub longest_image : ℕ
longest_image = 620691524

-- the words of the answers, where each has one
abbrev pub words_of_answers : Tables → List Arg → Option (List ℕ)
words_of_answers image [] = Some []
words_of_answers image (answer ∷ answers) =
    before_words (word_of_arg image answer) (words_of_answers image answers)

-- when the mover asks, and where it puts the blocks
abbrev pub schedule_of_moves : Moves → Schedule
schedule_of_moves Never = never
schedule_of_moves Every = every
schedule_of_moves (Seed seed) = seeded seed

-- These bytes are those of an image.
pub record IsSpelling (bytes : List ℕ) (image : Tables) : Type 0 where
  pub is_image : AreTables image
  pub spelled : bytes ≡ tables_bytes image

-- The bytes that were read are those of this image.
pub record ReadsImage (source : Side) (image : Tables) : Type 0 where
  pub bytes : List ℕ
  pub read : IsRead longest_image source bytes
  pub is_image : IsSpelling bytes image

-- The machine is at the entry of this run of the image, and these words answer its external calls.
pub record IsLoaded (run : RunTree) (image : Tables) (machine : Hart) (answers : List ℕ) : Type 0 where
  pub entry : Func
  pub args : List ℕ
  pub named : func_named run.entry image.funcs ≡ Some entry
  pub suit : words_of_args image entry.params run.args ≡ Some args
  pub answered : words_of_answers image run.answers ≡ Some answers
  pub is_start : machine ≡ start image entry args run.stack run.heap

-- The text is the outcome of this run of the image.
pub record IsRunText (run : RunTree) (image : Tables) (text : List ℕ) : Type 0 where
  pub entry : Func
  pub args : List ℕ
  pub answers : List ℕ
  pub named : func_named run.entry image.funcs ≡ Some entry
  pub suit : words_of_args image entry.params run.args ≡ Some args
  pub answered : words_of_answers image run.answers ≡ Some answers
  pub told : text
      ≡ outcome_text
      (machine_run image entry args answers run.stack run.heap (schedule_of_moves run.moves) run.steps)

-- The text is the outcome of this run of the image that was read.
pub record IsOutcomeOf (run : RunTree) (source : Side) (text : List ℕ) : Type 0 where
  pub image : Tables
  pub reads : ReadsImage source image
  pub is_text : IsRunText run image text

-- ---- why there is none

-- No image has these bytes, and this is the first fault in them.
pub record IsNoImage (bytes : List ℕ) (refusal : ImageRefusal) : Type 0 where
  pub none : (image : Tables) → IsSpelling bytes image → ⊥
  pub first : image_reading bytes ≡ Err refusal

-- The bytes that were read are no image's.
pub record ReadsNoImage (source : Side) (refusal : ImageRefusal) : Type 0 where
  pub bytes : List ℕ
  pub read : IsRead longest_image source bytes
  pub no_image : IsNoImage bytes refusal

-- The image has no function of the entry's name.
pub record NamesNoEntry (run : RunTree) (source : Side) : Type 0 where
  pub image : Tables
  pub reads : ReadsImage source image
  pub unknown : func_named run.entry image.funcs ≡ None

-- The arguments do not suit the entry, or a symbol of arguments or answers is no data symbol.
pub record IsUnfit (run : RunTree) (image : Tables) : Type 0 where
  pub entry : Func
  pub named : func_named run.entry image.funcs ≡ Some entry
  pub unfit : (words_of_args image entry.params run.args ≡ None)
      ⊎ (words_of_answers image run.answers ≡ None)

-- The image that was read is unfit in this way.
pub record GivesUnfit (run : RunTree) (source : Side) : Type 0 where
  pub image : Tables
  pub reads : ReadsImage source image
  pub is_unfit : IsUnfit run image
