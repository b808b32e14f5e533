use Rattle.std.proofs.Common.{sym, subst, refl, arith}
use Rattle.rows_code.specs.Points.{ArePointPieces}
use Rattle.rows_code.proofs.Points.{points_stand}
use Rattle.rows_code.proofs.large_pieces.pieces_of.Goals as goal

pub returns : goal.returns
returns c =
    points_stand _ c.min.result (subst (ArePointPieces c.min.result) (sym c.from_vec.ensures) c.in_ok-code.ensures) (omega (arith, c.min.ensures)) refl
