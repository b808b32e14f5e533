-- What is known of every file whose items are spelled by tokens.
use Rattle.std.specs.Prelude.{◌+◌, ◌*◌, ◌<◌, length, All}
use Rattle.cmm_tree.specs.Tree.{FunctionTree, FileTree, functions, data_lists}
use Rattle.cmm_tree.specs.Measures.{nodes_in, all_tries, values_in, IntegersFit, DataFits}

-- What is known of a function of so many tokens. Of them it has six itself, and three for each parameter.
pub record IsCovered (f : FunctionTree) : Type 0 where
  -- every integer in it is a word of 64 bits
  pub integers_fit : IntegersFit f.body
  -- its body has at most three nodes for each token
  pub nodes_covered : 18 + 9 * length f.params + nodes_in f.body < 3 * f.tokens
  -- it has at most two values and names for each token, where each try counts as one token fewer
  pub tokens_cover :
      12 + 6 * length f.params + (values_in f.body + 2 * all_tries f.body) < 2 * f.tokens

-- what is known of a file that was read
pub record IsMeasured (file : FileTree) : Type 0 where
  pub functions_covered : All IsCovered (functions file)
  pub data_fits : All DataFits (data_lists file)
