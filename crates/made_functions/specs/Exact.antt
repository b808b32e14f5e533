-- The frame descriptors of the image that is made for a file.
use Rattle.std.specs.Prelude.{List}
use Rattle.std.specs.List.{AllZip}
use Rattle.choices.specs.declared.choices.Choices.{Choices}
use Rattle.cmm_tree.specs.Tree.{FunctionTree, FileTree, functions}
use Rattle.image_form.specs.Tables.{Tables}
use Rattle.laid_parts.specs.Laid.{IsLaidOutAs}
use Rattle.line_stands.specs.Known.{IsLaid}
use Rattle.lin_ir.specs.declared.descr.Descr.{Descr}
use Rattle.lin_ir.specs.declared.lin.Lin.{Lin}
use Rattle.made_functions.specs.Chained.{IsChained}
use Rattle.made_functions.specs.Made.{IsMadeOf}
use Rattle.rv_pieces.specs.declared.piece.Pieces.{Pieces}

-- The pieces of a function carry exact frame descriptors.
pub record IsFunctionExact (choices : Choices) (tree : FunctionTree)
    (pieces : Pieces) : Type 0 where
  pub lin : Lin
  pub descriptors : List Descr
  -- what the compiler makes of the function
  pub made : IsMadeOf choices tree lin descriptors pieces
  -- a tight Linear function that does what is selected of the text's function, with one descriptor for
  -- each frame point, which names exactly what is live after it as val, where none is live as addr
  pub chained : IsChained tree lin descriptors pieces
  -- the pieces are its parts: each names exactly the registers and the stack words that its line reads
  -- and writes, and has its line's descriptor right after its call
  pub laid : IsLaidOutAs lin descriptors pieces

-- The image is laid out of such pieces, one for each function of the file, in order.
-- It is said of parts, and not of words alone: emission places operands of returns and calls by the
-- convention and does not look at them. So another function with the same words may have more that is live.
pub record IsExact (choices : Choices) (file : FileTree) (image : Tables) : Type 0 where
  pub pieces : List Pieces
  pub laid : IsLaid file pieces image
  pub each : AllZip (IsFunctionExact choices) (functions file) pieces
