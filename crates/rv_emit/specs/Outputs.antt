-- Pieces while they are made.
use Rattle.std.specs.Prelude.{◌≡◌, ◌++◌, List}
use Rattle.rv_pieces.specs.declared.piece.Piece.{Piece}
use Rattle.rv_emit.specs.declared.output.Output.{Output}

-- the pieces have been put after those that were there
abbrev pub AddsPieces : Output → Output → List Piece → Type 0
AddsPieces old new pieces = new.pieces.items ≡ old.pieces.items ++ pieces
