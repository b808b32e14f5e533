-- The pieces of a function beside its text.
use Rattle.std.specs.Prelude.{◌≡◌, ◌*◌, ◌≤◌, List, length}
use Rattle.cmm_tree.specs.Tree.{FunctionTree}
use Rattle.lin_ir.specs.declared.descr.Descr.{Descr}
use Rattle.chained_functions.specs.Known.{IsBoundedBy}
use Rattle.rv_pieces.specs.Named.{marks_in, places_in}
use Rattle.rv_pieces.specs.declared.piece.Pieces.{Pieces}

-- They are as small as the text asks.
pub record KeepsTo (tree : FunctionTree) (pieces : Pieces) : Type 0 where
  -- the descriptors that are among them
  pub descrs : List Descr
  pub carried : marks_in pieces.code ≡ descrs
  pub bounded : IsBoundedBy tree descrs pieces
  -- and the labels, which have no words: those of the Mach function, and at most one more for each
  -- of its instructions
  pub labels : length (places_in pieces.code) ≤ 12023 * tree.tokens
