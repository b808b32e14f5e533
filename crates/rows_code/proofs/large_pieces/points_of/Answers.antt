use Rattle.std.proofs.Common.{List, ◌∷◌, [], ◌++◌, ap, sym, subst, ◌∙◌, arith}
use Rattle.rv_pieces.specs.declared.piece.Piece.{Piece}
use Rattle.rows_code.specs.Points.{ArePointPieces, no_point}
use Rattle.rows_code.proofs.large_pieces.points_of.Goals as goal

pub loop-made-init : goal.loop-made-init
loop-made-init c =
    let one = c.in_ok-push.ensures.items ∙ ap (λ (code : List Piece). code ++ _ ∷ []) c.new-code.ensures.items in
    (subst (ArePointPieces 0) (sym one) (no_point _ (omega arith, omega arith, omega arith)), omega arith)
