-- Files that the front accepts, and their functions.
use Rattle.std.specs.Prelude.{ℕ, ◌<◌, All, List, Contains}
use Rattle.cmm_front.specs.FileOf.{IsFileOf}
use Rattle.cmm_tree.specs.Tree.{FileTree, FunctionTree, functions}

-- It is the file of some text, of bytes, that has no fault.
-- `compile` asks for this and not for a text: the front has been called before, once, and `check` and
-- `compile` share it. The promises of passes speak of functions of such files.
pub record IsAcceptedFile (file : FileTree) : Type 0 where
  pub text : List ℕ
  pub are_bytes : All (λ b. b < 256) text
  pub is_file : IsFileOf text file

-- It is a function of such a file.
pub record IsAcceptedFunction (tree : FunctionTree) : Type 0 where
  pub file : FileTree
  pub of_file : IsAcceptedFile file
  pub among : Contains (functions file) tree
