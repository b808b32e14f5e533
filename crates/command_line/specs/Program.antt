-- What the command line's parser is given, and what it makes of words of the form.
use Rattle.std.specs.Prelude.{◌≡◌, Contains, ℕ, true, false, List, [], ◌∷◌, codes, map, Option, Some}
use Rattle.clap.specs.Walk.{Row, Rule, Text, first_of}
use Rattle.clap.specs.Simple.{App, Shape, new_rule, new_shape, subcommand_of}
use Rattle.clap.specs.Takes.{takes}
use Rattle.command_line.specs.declared.form.CommandWord.{CommandWord}
use Rattle.command_line.specs.declared.form.CommandWord.TheVariants as word
use Rattle.command_line.specs.declared.form.Slot.{Slot}
use Rattle.command_line.specs.declared.form.Slot.TheVariants.{Plain, Args, Answers, Steps, Stack, Heap, Moves, Fuel, Jobs, Alloc, Schedule, Seed, Functions}
use Rattle.command_line.specs.Words.{command_text, slots_of_command, GivesSlot}

-- ---- what the parser is given

-- the slot's name: an option's is what is between `--` and `=`
abbrev pub id_of : Slot → List ℕ
id_of Plain = codes "word"
id_of Args = codes "args"
id_of Answers = codes "answers"
id_of Steps = codes "steps"
id_of Stack = codes "stack"
id_of Heap = codes "heap"
id_of Moves = codes "moves"
id_of Fuel = codes "fuel"
id_of Jobs = codes "jobs"
id_of Alloc = codes "alloc"
id_of Schedule = codes "schedule"
id_of Seed = codes "seed"
id_of Functions = codes "functions"

-- the text that stands for the value where no word gives one
abbrev pub default_texts : Slot → List (List ℕ)
default_texts Args = codes "" ∷ []
default_texts Answers = codes "" ∷ []
default_texts Steps = codes "100000000" ∷ []
default_texts Stack = codes "1048576" ∷ []
default_texts Heap = codes "1048576" ∷ []
default_texts Moves = codes "none" ∷ []
default_texts Fuel = codes "100000000" ∷ []
default_texts Jobs = codes "1" ∷ []
default_texts Alloc = codes "colour" ∷ []
default_texts Schedule = codes "none" ∷ []
default_texts _ = []

abbrev pub option_rule : Text → List Text → Rule
option_rule id defaults = record (new_rule id) { long = Some id; defaults = defaults }

abbrev pub slot_rule : Slot → Rule
slot_rule Plain = new_rule (id_of Plain)
slot_rule slot = option_rule (id_of slot) (default_texts slot)

abbrev pub command_shape : CommandWord → Shape
command_shape command = record (new_shape (command_text command)) { rules = map slot_rule (slots_of_command command) }

abbrev pub command_app : CommandWord → App
command_app command = record { top = command_shape command; subs = [] }

abbrev pub commands : List CommandWord
commands = word.Compile ∷ word.Run ∷ word.Check ∷ word.List ∷ word.Soak ∷ []

-- before a command is added
abbrev pub top_app : App
top_app = record {
  top = record (new_shape (codes "cmmc")) {
    no_binary_name = true;
    disable_help_flag = true;
    disable_help_subcommand = true;
  };
  subs = [];
}

abbrev pub program : App
program = record {
  top = record top_app.top { is_leaf = false };
  subs = map command_shape commands;
}

-- ---- what it makes of words

-- the text that stands for a slot's value: the one that a word gives, or else the default
pub data IsSlotText (others : List (List ℕ)) (slot : Slot) (text : List ℕ) : Type 0 where
  word_gives : GivesSlot others slot text → IsSlotText others slot text
  word_lacks : ((value : List ℕ) → GivesSlot others slot value → ⊥) → default_texts slot ≡ text ∷ [] → IsSlotText others slot text

-- this option is the text that stands for the slot's value
abbrev pub HasText : List (List ℕ) → Slot → Option (List ℕ) → Type 0
HasText others slot found = (text : List ℕ) × (found ≡ Some text) × IsSlotText others slot text

-- the text that stands for an option that is left out is read as the default, and as nothing else
pub record Defaults {X : Type 0} (slot : Slot) (Reads : List ℕ → X → Type 0) (default : X) : Type 0 where
  pub text : List ℕ
  pub is : default_texts slot ≡ text ∷ []
  pub reads : Reads text default
  pub alone : (x : X) → Reads text x → x ≡ default

-- Words of the form are taken, as the command with its slots' texts.
pub record AreTaken (command : CommandWord) (others : List (List ℕ)) : Type 0 where
  pub taken : takes program (command_text command ∷ others) ≡ true
  pub rows : List Row
  pub entered : subcommand_of program (command_text command ∷ others) ≡ Some (command_text command, rows)
  pub stands : (slot : Slot) → Contains (slots_of_command command) slot → HasText others slot (first_of (id_of slot) rows)
