-- Which words are which command.
use Rattle.std.specs.Prelude.{◌≡◌, ℕ, ◌<◌, ◌≤◌, ◌^◌, ◌%◌, List, [], ◌∷◌}
use Rattle.rv_machine.specs.declared.setup.Arg.{Arg}
use Rattle.command_line.specs.declared.form.CommandWord.{CommandWord}
use Rattle.command_line.specs.declared.form.CommandWord.TheVariants as word
use Rattle.command_line.specs.declared.form.Slot.{Slot}
use Rattle.command_line.specs.declared.form.Slot.TheVariants.{Plain, Args, Answers, Steps, Stack, Heap, Fuel, Jobs, Functions}
use Rattle.command_line.specs.declared.form.Slot.TheVariants as slot
use Rattle.choices.specs.Defaults.{defaults}
use Rattle.choices.specs.declared.choices.Choices.{Choices}
use Rattle.stages.specs.declared.stage.Stage.{Stage}
use Rattle.command_line.specs.declared.command.Moves.{Moves}
use Rattle.command_line.specs.declared.command.Moves.TheVariants.{Never}
use Rattle.rv_machine.specs.Places.{most_room}
use Rattle.bs_words.specs.Symbol.{IsSymbol}
use Rattle.command_line.specs.Values.{IsSteps, IsSize, IsMoves, IsItems, IsCounted, IsSeed, IsStage, IsAlloc, IsOrder, most_steps, most_jobs, most_functions}
use Rattle.command_line.specs.Words.{command_text, IsForm, GivesSlot}

-- What a run is to do.
pub record RunTree : Type 0 where
  pub entry : List ℕ
  pub args : List Arg
  pub answers : List Arg
  pub steps : ℕ
  pub stack : ℕ
  pub heap : ℕ
  pub moves : Moves

-- What a run of a text is to do.
pub record CheckTree : Type 0 where
  pub entry : List ℕ
  pub args : List Arg
  pub answers : List Arg
  pub fuel : ℕ
  pub choices : Choices

-- A command with its values.
pub data CommandTree : Type 0 where
  CompileCommand : (choices : Choices) (jobs : ℕ) → CommandTree
  RunCommand : (run : RunTree) → CommandTree
  CheckCommand : (check : CheckTree) → CommandTree
  ListCommand : (choices : Choices) (stage : Stage) → CommandTree
  SoakCommand : (seed functions : ℕ) → CommandTree

-- what holds where no option says otherwise: so many instructions, or units of fuel
abbrev pub default_steps : ℕ
default_steps = 100000000

abbrev pub default_size : ℕ
default_size = 1048576

abbrev pub default_moves : Moves
default_moves = Never

abbrev pub default_jobs : ℕ
default_jobs = 1

-- The words give the slot a value, from which x is read.
pub record TellsSlot {X : Type 0} (others : List (List ℕ)) (slot : Slot) (Reads : List ℕ → X → Type 0) (x : X) : Type 0 where
  pub value : List ℕ
  pub gives : GivesSlot others slot value
  pub reads : Reads value x

-- The words set the slot to x: x is read from the value that they give, or they give none and x is the default.
pub data Sets {X : Type 0} (others : List (List ℕ)) (slot : Slot) (Reads : List ℕ → X → Type 0) (default x : X) : Type 0 where
  given : (value : List ℕ)
      → GivesSlot others slot value
      → Reads value x
      → Sets others slot Reads default x
  left_out : ((value : List ℕ) → GivesSlot others slot value → ⊥)
      → x ≡ default
      → Sets others slot Reads default x

-- The words set what is chosen.
pub record SetsChoices (others : List (List ℕ)) (choices : Choices) : Type 0 where
  pub alloc : Sets others slot.Alloc IsAlloc (defaults).alloc choices.alloc
  pub order : Sets others slot.Schedule IsOrder (defaults).order choices.order

-- The words after `run` are this run.
pub record IsRun (others : List (List ℕ)) (run : RunTree) : Type 0 where
  pub entry : GivesSlot others Plain run.entry
  pub entry_name : IsSymbol run.entry
  pub args : Sets others Args IsItems [] run.args
  pub answers : Sets others Answers IsItems [] run.answers
  pub steps : Sets others Steps IsSteps default_steps run.steps
  pub stack : Sets others Stack IsSize default_size run.stack
  pub heap : Sets others Heap IsSize default_size run.heap
  pub moves : Sets others slot.Moves IsMoves default_moves run.moves

-- The words after `check` are this run of a text.
pub record IsCheck (others : List (List ℕ)) (check : CheckTree) : Type 0 where
  pub entry : GivesSlot others Plain check.entry
  pub entry_name : IsSymbol check.entry
  pub args : Sets others Args IsItems [] check.args
  pub answers : Sets others Answers IsItems [] check.answers
  pub fuel : Sets others Fuel IsSteps default_steps check.fuel
  pub choices : SetsChoices others check.choices

-- What is set without memory: the numbers and the moves of a run, and the fuel and the choices of a run of a text.
pub record SetsRunNumbers (others : List (List ℕ)) : Type 0 where
  pub steps : (n : ℕ) × Sets others Steps IsSteps default_steps n
  pub stack : (n : ℕ) × Sets others Stack IsSize default_size n
  pub heap : (n : ℕ) × Sets others Heap IsSize default_size n
  pub moves : (moves : Moves) × Sets others slot.Moves IsMoves default_moves moves

pub record SetsCheckNumbers (others : List (List ℕ)) : Type 0 where
  pub fuel : (n : ℕ) × Sets others Fuel IsSteps default_steps n
  pub choices : (choices : Choices) × SetsChoices others choices

-- What holds where memory was wanted for a command's values: a fault in a value that takes none is told before.
abbrev pub MayWantMemory : List (List ℕ) → CommandWord → Type 0
MayWantMemory others word.Run = SetsRunNumbers others
MayWantMemory others word.Check = SetsCheckNumbers others
MayWantMemory others word.Compile = ⊥
MayWantMemory others word.List = ⊥
MayWantMemory others word.Soak = ⊥

-- What the words after the first are, by the command that the first one names.
pub data Means (others : List (List ℕ)) : CommandWord → CommandTree → Type 0 where
  compile : (choices : Choices) (jobs : ℕ)
      → SetsChoices others choices
      → Sets others Jobs (IsCounted most_jobs) default_jobs jobs
      → Means others word.Compile (CompileCommand choices jobs)
  run : (r : RunTree) → IsRun others r → Means others word.Run (RunCommand r)
  check : (c : CheckTree) → IsCheck others c → Means others word.Check (CheckCommand c)
  list : (choices : Choices) (stage : Stage)
      → SetsChoices others choices
      → TellsSlot others Plain IsStage stage
      → Means others word.List (ListCommand choices stage)
  soak : (seed functions : ℕ)
      → TellsSlot others slot.Seed IsSeed seed
      → TellsSlot others Functions (IsCounted most_functions) functions
      → Means others word.Soak (SoakCommand seed functions)

-- The words are this command.
pub record IsCommand (words : List (List ℕ)) (tree : CommandTree) : Type 0 where
  pub command : CommandWord
  pub others : List (List ℕ)
  pub begins : words ≡ command_text command ∷ others
  pub form : IsForm command others
  pub means : Means others command tree

-- The words are the command `compile` by these choices, with whatever jobs: what is said of the image knows nothing of them.
abbrev pub AsksToCompile : List (List ℕ) → Choices → Type 0
AsksToCompile words choices = (jobs : ℕ) × IsCommand words (CompileCommand choices jobs)

-- What is known of a run that words can ask for.
pub record WithinLimits (run : RunTree) : Type 0 where
  pub entry : IsSymbol run.entry
  pub steps : run.steps ≤ most_steps
  pub stack : run.stack ≤ most_room
  pub stack_aligned : run.stack % 16 ≡ 0
  pub heap : run.heap ≤ most_room
  pub heap_aligned : run.heap % 16 ≡ 0

-- What is known of a run of a text that words can ask for.
pub record WithinFuel (check : CheckTree) : Type 0 where
  pub entry : IsSymbol check.entry
  pub fuel : check.fuel ≤ most_steps

abbrev pub KeepsLimits : CommandTree → Type 0
KeepsLimits (CompileCommand choices jobs) = (1 ≤ jobs) × (jobs ≤ most_jobs)
KeepsLimits (RunCommand r) = WithinLimits r
KeepsLimits (CheckCommand c) = WithinFuel c
KeepsLimits (ListCommand choices stage) = Unit {0}
KeepsLimits (SoakCommand seed functions) = (seed < 2 ^ 64) × (1 ≤ functions) × (functions ≤ most_functions)
