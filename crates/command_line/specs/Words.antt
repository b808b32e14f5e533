-- The form of a command line, whatever its values are. A word is the list of its bytes; the program's
-- own name is no word.
use Rattle.std.specs.Prelude.{◌≡◌, ℕ, ◌≤◌, Bool, true, not, nat_eq, IsTrue, List, [], ◌∷◌, ◌++◌, codes, All, Contains, count_by}
use Rattle.std.specs.List.{list_any, starts_with}
use Rattle.command_line.specs.declared.form.CommandWord.{CommandWord}
use Rattle.command_line.specs.declared.form.CommandWord.TheVariants as word
use Rattle.command_line.specs.declared.form.Slot.{Slot}
use Rattle.command_line.specs.declared.form.Slot.TheVariants.{Plain, Args, Answers, Steps, Stack, Heap, Moves, Fuel, Jobs, Alloc, Schedule, Seed, Functions}

-- ---- the table of commands

-- the first word
abbrev pub command_text : CommandWord → List ℕ
command_text word.Compile = codes "compile"
command_text word.Run = codes "run"
command_text word.Check = codes "check"
command_text word.List = codes "list"
command_text word.Soak = codes "soak"

-- what the other words may be for
abbrev pub slots_of_command : CommandWord → List Slot
slots_of_command word.Compile = Jobs ∷ Alloc ∷ Schedule ∷ []
slots_of_command word.Run = Plain ∷ Args ∷ Answers ∷ Steps ∷ Stack ∷ Heap ∷ Moves ∷ []
slots_of_command word.Check = Plain ∷ Args ∷ Answers ∷ Fuel ∷ Alloc ∷ Schedule ∷ []
slots_of_command word.List = Plain ∷ Alloc ∷ Schedule ∷ []
slots_of_command word.Soak = Seed ∷ Functions ∷ []

-- what a word has to be there for
abbrev pub wanted_of : CommandWord → List Slot
wanted_of word.Compile = []
wanted_of word.Run = Plain ∷ []
wanted_of word.Check = Plain ∷ []
wanted_of word.List = Plain ∷ []
wanted_of word.Soak = Seed ∷ Functions ∷ []

-- what is before the value in a word of the slot: an option is `--name=value`, and a plain word is its own value
abbrev pub prefix_of : Slot → List ℕ
prefix_of Plain = []
prefix_of Args = codes "--args="
prefix_of Answers = codes "--answers="
prefix_of Steps = codes "--steps="
prefix_of Stack = codes "--stack="
prefix_of Heap = codes "--heap="
prefix_of Moves = codes "--moves="
prefix_of Fuel = codes "--fuel="
prefix_of Jobs = codes "--jobs="
prefix_of Alloc = codes "--alloc="
prefix_of Schedule = codes "--schedule="
prefix_of Seed = codes "--seed="
prefix_of Functions = codes "--functions="

-- ---- the form

-- whether a word is for the slot: a plain word does not begin with `-`
abbrev pub fills_slot : Slot → List ℕ → Bool
fills_slot Plain text = not (starts_with nat_eq text (codes "-"))
fills_slot slot text = starts_with nat_eq text (prefix_of slot)

-- The words after the first have the form that a command wants: each is for one of its slots, no two
-- are for the same, and what is wanted is there. Their order is free.
pub record IsForm (command : CommandWord) (others : List (List ℕ)) : Type 0 where
  pub each : All (λ text. IsTrue (list_any (λ slot. fills_slot slot text) (slots_of_command command))) others
  pub once : All (λ slot. count_by (fills_slot slot) others ≤ 1) (slots_of_command command)
  pub there : All (λ slot. 1 ≤ count_by (fills_slot slot) others) (wanted_of command)

-- The words have the form of a command.
pub record AreCommandWords (words : List (List ℕ)) : Type 0 where
  pub command : CommandWord
  pub others : List (List ℕ)
  pub begins : words ≡ command_text command ∷ others
  pub form : IsForm command others

-- one of the words gives the slot this value
abbrev pub GivesSlot : List (List ℕ) → Slot → List ℕ → Type 0
GivesSlot others slot value =
    Contains others (prefix_of slot ++ value) × (fills_slot slot (prefix_of slot ++ value) ≡ true)
