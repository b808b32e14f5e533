-- How the values of a command line are written.
use Rattle.std.specs.Prelude.{◌≡◌, ◌≢◌, ℕ, ◌+◌, ◌-◌, ◌*◌, ◌%◌, ◌^◌, ◌<◌, ◌≤◌, List, [], ◌∷◌, ◌++◌, codes, length, fold, All}
use Rattle.bs_words.specs.Symbol.{IsSymbol}
use Rattle.bs_words.specs.Word.{sub_word}
use Rattle.command_line.specs.declared.command.Moves.{Moves}
use Rattle.command_line.specs.declared.command.Moves.TheVariants.{Never, Every, Seed}
use Rattle.stages.specs.declared.stage.Stage.{Stage}
use Rattle.stages.specs.declared.stage.Stage.TheVariants as stage
use Rattle.choices.specs.declared.choices.Alloc.{Alloc}
use Rattle.choices.specs.declared.choices.Alloc.TheVariants.{Colour, Linear}
use Rattle.choices.specs.declared.choices.Order.{Order}
use Rattle.choices.specs.declared.choices.Order.TheVariants as order
use Rattle.rv_machine.specs.Places.{most_room}
use Rattle.rv_machine.specs.declared.setup.Arg.{Arg}
use Rattle.rv_machine.specs.declared.setup.Arg.TheVariants.{Word, Symbol}

-- nothing has the property
abbrev pub Nothing : {X : Type 0} → (X → Type 0) → Type 0
Nothing {X} P = (x : X) → P x → ⊥

-- ---- numbers

-- the most instructions that a run may be asked to retire, which is also the most fuel of a run of a text
abbrev pub most_steps : ℕ
most_steps = 1000000000000

-- the number that digits write
abbrev pub decimal_number : List ℕ → ℕ
decimal_number digits = fold (λ n digit. 10 * n + (digit - 48)) 0 digits

-- decimal digits that write this number; zeros may lead
pub record IsNumber (bytes : List ℕ) (n : ℕ) : Type 0 where
  pub some : 1 ≤ length bytes
  pub digits : All (λ b. (48 ≤ b) × (b ≤ 57)) bytes
  pub value : n ≡ decimal_number bytes

-- a number of instructions, or of units of fuel
pub record IsSteps (bytes : List ℕ) (n : ℕ) : Type 0 where
  pub number : IsNumber bytes n
  pub limit : n ≤ most_steps

-- the size of a stack or a half of a heap
pub record IsSize (bytes : List ℕ) (n : ℕ) : Type 0 where
  pub number : IsNumber bytes n
  pub limit : n ≤ most_room
  pub aligned : n % 16 ≡ 0

-- a number from 1 to the limit
pub record IsCounted (limit : ℕ) (bytes : List ℕ) (n : ℕ) : Type 0 where
  pub number : IsNumber bytes n
  pub some : 1 ≤ n
  pub limited : n ≤ limit

-- the most jobs of a compilation, and the most functions of a soak
abbrev pub most_jobs : ℕ
most_jobs = 64

abbrev pub most_functions : ℕ
most_functions = 1000

-- what a generator starts from: a number of 64 bits
pub record IsSeed (bytes : List ℕ) (n : ℕ) : Type 0 where
  pub number : IsNumber bytes n
  pub limit : n < 2 ^ 64

-- ---- stages

-- the word for each stage of the compiler
abbrev pub stage_word : Stage → List ℕ
stage_word stage.Select = codes "select"
stage_word stage.CombAlloc = codes "comballoc"
stage_word stage.Cse = codes "cse"
stage_word stage.Dead = codes "dead"
stage_word stage.Spill = codes "spill"
stage_word stage.Split = codes "split"
stage_word stage.Alloc = codes "alloc"
stage_word stage.Linear = codes "linear"
stage_word stage.Frames = codes "frames"
stage_word stage.Code = codes "code"

abbrev pub IsStage : List ℕ → Stage → Type 0
IsStage text s = text ≡ stage_word s

-- ---- what is chosen

-- the word for each way in which registers get their places
abbrev pub alloc_word : Alloc → List ℕ
alloc_word Colour = codes "colour"
alloc_word Linear = codes "linscan"

abbrev pub IsAlloc : List ℕ → Alloc → Type 0
IsAlloc text a = text ≡ alloc_word a

-- the word for each order of lines
abbrev pub order_word : Order → List ℕ
order_word order.Plain = codes "none"
order_word order.List = codes "list"

abbrev pub IsOrder : List ℕ → Order → Type 0
IsOrder text o = text ≡ order_word o

-- ---- moves

-- `seed:` and a seed
pub data SeedsMoves (text : List ℕ) (moves : Moves) : Type 0 where
  seed : (digits : List ℕ) (n : ℕ)
      → text ≡ codes "seed:" ++ digits → IsSeed digits n → moves ≡ Seed n → SeedsMoves text moves

-- when the mover asks and where it puts blocks: `none`, `every`, or a seed
pub data IsMoves (text : List ℕ) (moves : Moves) : Type 0 where
  never : text ≡ codes "none" → moves ≡ Never → IsMoves text moves
  every : text ≡ codes "every" → moves ≡ Every → IsMoves text moves
  seeded : SeedsMoves text moves → IsMoves text moves

-- ---- items

-- one argument or answer
pub data IsItem (text : List ℕ) (item : Arg) : Type 0 where
  -- a number below 2 ^ 63
  number : (n : ℕ) → IsNumber text n → n < 2 ^ 63 → item ≡ Word n → IsItem text item
  -- `-` and a number of at most 2 ^ 63, as the word of 64 bits
  negative : (digits : List ℕ) (n : ℕ)
      → text ≡ 45 ∷ digits → IsNumber digits n → n ≤ 2 ^ 63 → item ≡ Word (sub_word 0 n) → IsItem text item
  -- `@` and a name without a comma
  symbol : (name : List ℕ)
      → text ≡ 64 ∷ name → IsSymbol name → All (λ b. b ≢ 44) name → item ≡ Symbol name → IsItem text item

-- one item or more, with a comma between each two
pub data AreArguments : List ℕ → List Arg → Type 0 where
  last : (text : List ℕ) (item : Arg) → IsItem text item → AreArguments text (item ∷ [])
  more : (text rest : List ℕ) (item : Arg) (items : List Arg)
      → IsItem text item → AreArguments rest items → AreArguments (text ++ (44 ∷ rest)) (item ∷ items)

-- items, or no byte for no item
pub data IsItems (bytes : List ℕ) (items : List Arg) : Type 0 where
  none : bytes ≡ [] → items ≡ [] → IsItems bytes items
  some : AreArguments bytes items → IsItems bytes items
