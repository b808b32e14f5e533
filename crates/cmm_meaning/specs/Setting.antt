-- The file round a function, as far as the function knows it: not what calls do.
use Rattle.std.specs.Prelude.{ℕ, List, Option}
use Rattle.bs_words.specs.declared.types.Comp.{Comp}
use Rattle.bs_words.specs.declared.values.Value.{Value}
use Rattle.cmm_meaning.specs.Evaluation.{Surroundings}

-- What is known of the file round a function.
pub record Setting : Type 0 where
  -- the first address past the data
  pub end : ℕ
  -- the value of a symbol
  pub symbol : List ℕ → Option Value
  -- the components of the parameters of each function, in order
  pub parameters : List (List Comp)

-- the setting of a run: what is round it but for the calls
abbrev pub setting_of : Surroundings → Setting
setting_of s = record { end = s.end; symbol = s.symbol; parameters = s.parameters }
