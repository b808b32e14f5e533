-- How large what is made of a function is at most, by its text.
use Rattle.std.specs.Prelude.{◌+◌, ◌*◌, ◌≤◌, List, length, All}
use Rattle.cmm_tree.specs.Tree.{FunctionTree}
use Rattle.correctness.specs.Bounds.{most_words}
use Rattle.correctness.specs.Measures.{frame_points, tries}
use Rattle.rv_emit_rules.specs.Sizes.{words_at_most}
use Rattle.lin_ir.specs.declared.descr.Descr.{Descr}
use Rattle.rv_pieces.specs.declared.piece.Pieces.{Pieces}

pub record IsBoundedBy (tree : FunctionTree) (ds : List Descr) (pieces : Pieces) : Type 0 where
  -- bytes of the frame, and 16 for each try that may be on top
  pub frame : pieces.frame + 16 * tries tree ≤ 16 * tree.tokens + 32
  -- words of its code, each branch in its longest form
  pub words : words_at_most pieces.code ≤ most_words tree
  -- descriptors, and the entries of each: colours and slots
  pub points : length ds ≤ frame_points tree
  pub entries : All (λ (d : Descr). length d.entries ≤ 21 + 2 * tree.tokens) ds
