-- How much a text holds.
use Rattle.std.specs.Prelude.{ℕ, ◌≤◌, List, length, sum_by}
use Rattle.bs_fault.specs.Limits.{longest_text}
use Rattle.cmm_tree.specs.Tree.{FunctionTree, FileTree, functions}
use Rattle.text_sizes.specs.Measures.{items_bytes}

pub record IsSizeHeld (text : List ℕ) (file : FileTree) : Type 0 where
  pub short : length text ≤ longest_text
  -- it has a byte for each token of its functions
  pub tokens : sum_by (λ (f : FunctionTree). f.tokens) (functions file) ≤ length text
  -- and those of its external calls and of the symbols of its data
  pub names : items_bytes file.items ≤ length text
