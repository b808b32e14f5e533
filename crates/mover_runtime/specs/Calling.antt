-- What the code of a frame call takes and writes.
use Rattle.std.specs.Prelude.{◌≡◌, ◌≤◌, ℕ, List, ◌∷◌, length, Option, Some, None}
use Rattle.bs_words.specs.Observed.{Made}
use Rattle.bs_words.specs.declared.types.Ret.{Ret}
use Rattle.bs_words.specs.declared.types.Ret.TheVariants as returns
use Rattle.bs_words.specs.declared.values.Obs.{Obs}
use Rattle.mover_runtime.specs.declared.calling.Answer.{Answer}

-- these are the next two answers, or there are fewer
abbrev pub AreNext : Option Answer → List ℕ → Type 0
AreNext None answers = length answers ≤ 1
AreNext (Some answer) answers = (left : List ℕ) × (answers ≡ answer.raises ∷ answer.value ∷ left)

-- a call of that name that showed so
abbrev pub shown_call : List ℕ → List Obs → Made
shown_call name shown = record { name = name; shown = shown }

-- the value, where the result type has one
abbrev pub wanted : Ret → ℕ → Option ℕ
wanted returns.Unit value = None
wanted (returns.Comp c) value = Some value
