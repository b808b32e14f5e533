-- What the command `soak` does.
--
-- It is made of `check` and `run`, by the trees of their words, so that nothing of a run is said again. It
-- compares nothing; that its three lines are alike is a row. None of its words chooses.
use Rattle.std.specs.Prelude.{◌≡◌, ◌≢◌, ◌⊎◌, ℕ, ◌-◌, List, [], ◌∷◌, ◌++◌, codes, length, All}
use Rattle.choices.specs.Defaults.{defaults}
use Rattle.cmm_gen.specs.Drawn.{symbol_of, text_of}
use Rattle.cmm_gen.specs.Drawing.{drawn, generator}
use Rattle.command_line.specs.Command.{RunTree, CheckTree}
use Rattle.command_line.specs.declared.command.Moves.{Moves}
use Rattle.command_line.specs.declared.command.Moves.TheVariants.{Never, Seed}
use Rattle.image_form.specs.Image.{tables_bytes}
use Rattle.image_form.specs.Tables.{Tables}
use Rattle.rv_machine.specs.Places.{most_room}
use Rattle.rv_machine.specs.declared.setup.Arg.{Arg}
use Rattle.rv_machine.specs.declared.setup.Arg.TheVariants.{Word}
use Rattle.text_commands.specs.Lines.{need_text}
use Rattle.text_commands.specs.Trial.{IsTrial}
use Rattle.commands.specs.Run.{IsRunText}

-- the text that the generator draws
abbrev pub soak_text : ℕ → ℕ → List ℕ
soak_text seed functions = text_of (drawn functions (generator seed))

-- ---- the runs of its last function

abbrev pub soak_entry : ℕ → List ℕ
soak_entry functions = symbol_of (functions - 1)

abbrev pub soak_args : List Arg
soak_args = Word 3 ∷ Word 4 ∷ []

-- the most instructions, or units of fuel
abbrev pub soak_steps : ℕ
soak_steps = 1000000000

abbrev pub soak_check : ℕ → CheckTree
soak_check functions = record {
  entry = soak_entry functions;
  args = soak_args;
  answers = [];
  fuel = soak_steps;
  choices = defaults;
}

abbrev pub soak_run : ℕ → Moves → RunTree
soak_run functions moves = record {
  entry = soak_entry functions;
  args = soak_args;
  answers = [];
  steps = soak_steps;
  stack = most_room;
  heap = most_room;
  moves = moves;
}

-- ---- what is reported

-- What comes after this begins a line.
abbrev pub BeginsLine : List ℕ → Type 0
BeginsLine front = (front ≡ []) ⊎ ((before : List ℕ) × (front ≡ before ++ 10 ∷ []))

-- This is the last line of the text, with its line feed.
pub record IsLastLine (text line : List ℕ) : Type 0 where
  pub front : List ℕ
  pub words : List ℕ
  pub whole : text ≡ front ++ line
  pub begins : BeginsLine front
  pub ended : line ≡ words ++ 10 ∷ []
  pub one : All (λ b. b ≢ 10) words

-- five lines: how many functions, the bytes of the image, and the last lines of three outcomes
abbrev pub soak_lines : ℕ → ℕ → List ℕ → List ℕ → List ℕ → List ℕ
soak_lines functions bytes check still moved =
    need_text (codes "functions") functions
    ++ (need_text (codes "image") bytes
    ++ (codes "check " ++ (check ++ (codes "still " ++ (still ++ (codes "moved " ++ moved))))))

-- The lines that are reported of the text that is drawn: of its image, and of the outcomes of its
-- last function, by the meaning of the text, and on the machine where nothing moves and where the
-- seed draws what moves.
pub record IsSoakOf (seed functions : ℕ) (lines : List ℕ) : Type 0 where
  pub image : Tables
  pub meant : List ℕ
  pub at_rest : List ℕ
  pub in_motion : List ℕ
  pub trial : IsTrial (soak_check functions) (soak_text seed functions) image meant
  pub rests : IsRunText (soak_run functions Never) image at_rest
  pub moves : IsRunText (soak_run functions (Seed seed)) image in_motion
  pub check : List ℕ
  pub still : List ℕ
  pub moved : List ℕ
  pub last_meant : IsLastLine meant check
  pub last_at_rest : IsLastLine at_rest still
  pub last_in_motion : IsLastLine in_motion moved
  pub told : lines ≡ soak_lines functions (length (tables_bytes image)) check still moved
