-- What the stages make of each function of a file.
use Rattle.std.specs.Prelude.{◌≡◌, ℕ, max, List, [], ◌∷◌, Option, Some, None, slice_get}
use Rattle.bs_words.specs.declared.types.Ret.TheVariants as ret
use Rattle.cmm_tree.specs.Measures.{nodes_in}
use Rattle.cmm_tree.specs.Tree.{FunctionTree, FileTree, functions}
use Rattle.mach_ir.specs.declared.mach.Mach.{Mach}
use Rattle.lin_ir.specs.declared.descr.Descr.{Descr}
use Rattle.lin_ir.specs.declared.lin.Lin.{Lin}
use Rattle.function_stands.specs.Known.{IsChained}
use Rattle.rv_pieces.specs.declared.piece.Pieces.{Pieces}
use Rattle.selection_rules.specs.Select.{selected}

-- ---- the functions of a file

-- The function of this number was compiled to its pieces.
pub record HasChain (tree : FunctionTree) (ps : List Pieces) (k : ℕ) : Type 0 where
  pub lin : Lin
  pub descrs : List Descr
  pub pieces : Pieces
  pub there : slice_get ps k ≡ Some pieces
  pub chained : IsChained tree lin descrs pieces

-- so was each function of the file
abbrev pub AreChained : FileTree → List Pieces → Type 0
AreChained file ps =
    (k : ℕ) (tree : FunctionTree) → slice_get (functions file) k ≡ Some tree →
    HasChain tree ps k

-- what is selected of the function of this number; past the last one there is nothing
abbrev pub selected_of : Option FunctionTree → Mach
selected_of (Some tree) = selected tree
selected_of None =
    record {
      name = [];
      params = [];
      result = ret.Unit;
      labels = 0;
      colours = [];
      code = [];
    }

abbrev pub selected_in : FileTree → ℕ → Mach
selected_in file f = selected_of (slice_get (functions file) f)

-- the most nodes of a body
abbrev pub most_nodes : List FunctionTree → ℕ
most_nodes [] = 0
most_nodes (f ∷ fs) = max (nodes_in f.body) (most_nodes fs)
