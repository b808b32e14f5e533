use Rattle.std.proofs.Common.{suc, List, ◌∷◌, [], ◌++◌, ap, sym, subst, ◌∙◌, arith}
use Rattle.rv_pieces.specs.declared.piece.Piece.{Piece}
use Rattle.rv_pieces.specs.declared.piece.Piece.TheVariants.{Descriptor}
use Rattle.rows_code.specs.Points.{ArePointPieces, one_point}
use Rattle.rows_code.proofs.large_pieces.put_point.Goals as goal

pub returns : goal.returns
returns c n are =
    let both = c.in_ok-push-2.ensures.items ∙ ap (λ (code : List Piece). code ++ Descriptor c.in_ok-descr.descr ∷ []) c.in_ok-push.ensures.items in
    subst (ArePointPieces (suc n)) (sym both)
    (one_point n c.args.code.now.items _ c.in_ok-descr.descr are (omega arith, omega arith, omega arith) c.in_ok-descr.ensures)
