-- The words of answers, one by one.
use Rattle.std.proofs.Common.{◌≡◌, ℕ, List, ◌++◌, drop, Option}
use Rattle.std.specs.Prelude.{option_map}
use Rattle.image_form.specs.Tables.{Tables}
use Rattle.rv_machine.specs.declared.setup.Arg.{Arg}
use Rattle.commands.specs.Run.{words_of_answers}

-- these words, and then the others, where there are any
abbrev pub joined : List ℕ → Option (List ℕ) → Option (List ℕ)
joined words others = option_map (λ rest. words ++ rest) others

-- the words so far are those of the answers that were passed
abbrev pub SoFar : Tables → List Arg → ℕ → List ℕ → Type 0
SoFar image answers i words = words_of_answers image answers ≡ joined words (words_of_answers image (drop i answers))
