-- What an external call is known by.
use Rattle.std.specs.Prelude.{ℕ, List}
use Rattle.bs_words.specs.declared.types.Comp.{Comp}
use Rattle.bs_words.specs.declared.types.Ret.{Ret}

-- An external call as an image's table names it: its name, the component of each argument, int or val, and what it
-- answers. Calls of one name that differ in these are different.
-- An argument that never comes counts as an int, as the table writes it.
pub record External : Type 0 where
  pub name : List ℕ
  pub params : List Comp
  pub result : Ret
