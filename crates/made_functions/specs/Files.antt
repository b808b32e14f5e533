-- What the compiler makes of a file.
--
-- Status 8 speaks of these tables, with the first section that passes its limit, computed before any word
-- is made. So no padded code can bring it about. They are tables, and no image: an image keeps its limits.
use Rattle.std.specs.Prelude.{List}
use Rattle.std.specs.List.{AllZip}
use Rattle.choices.specs.declared.choices.Choices.{Choices}
use Rattle.cmm_tree.specs.Tree.{FunctionTree, FileTree, functions}
use Rattle.image_form.specs.Tables.{Tables}
use Rattle.line_stands.specs.Known.{IsLaidOut}
use Rattle.lin_ir.specs.declared.descr.Descr.{Descr}
use Rattle.lin_ir.specs.declared.lin.Lin.{Lin}
use Rattle.rv_pieces.specs.declared.piece.Pieces.{Pieces}
use Rattle.made_functions.specs.Made.{IsMadeOf}

-- the pieces are what is made of the function
pub record IsFunctionMade (choices : Choices) (tree : FunctionTree) (pieces : Pieces) : Type 0 where
  pub lin : Lin
  pub descriptors : List Descr
  pub made : IsMadeOf choices tree lin descriptors pieces

-- The tables that are made for a file: each of its functions is made into pieces, and they are laid out
-- in their order.
pub record AreTablesMadeFor (choices : Choices) (file : FileTree) (t : Tables) : Type 0 where
  pub pieces : List Pieces
  pub each : AllZip (IsFunctionMade choices) (functions file) pieces
  pub laid : IsLaidOut file pieces t
