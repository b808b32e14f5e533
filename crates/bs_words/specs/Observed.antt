-- What an observer sees of a run, of the text and of the machine alike.
use Rattle.std.specs.Prelude.{ℕ, List}
use Rattle.bs_words.specs.declared.values.Obs.{Obs}

-- An external call that was made: its name, and what its arguments showed.
pub record Made : Type 0 where
  pub name : List ℕ
  pub shown : List Obs
