use Rattle.std.proofs.Common.{◌≡◌, ◌++◌, map, drop}
use Rattle.rv_pieces.specs.declared.piece.Piece.TheVariants as piece
use Rattle.rv_emit.proofs.output.Output.rows.Given as goal

abbrev pub invariant-loop-label : goal.invariant-loop-label
invariant-loop-label l =
    l.initial.self.pieces.items ++ map piece.Row l.labels
    ≡ l.self.pieces.items ++ map piece.Row (drop l.label-index l.labels)
