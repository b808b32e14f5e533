-- The bytes of descriptors.
use Rattle.std.specs.Prelude.{ℕ, ◌+◌, ◌*◌, length, sum_by}
use Rattle.rv_pieces.specs.declared.piece.Piece.{Piece}
use Rattle.rv_pieces.specs.declared.piece.Piece.TheVariants.{Descriptor}
use Rattle.rv_pieces.specs.declared.piece.Pieces.{Pieces}

-- of a descriptor: three numbers, and its entries
abbrev pub piece_size : Piece → ℕ
piece_size (Descriptor d) = 12 + 4 * length d.entries
piece_size _ = 0

abbrev pub pieces_size : Pieces → ℕ
pieces_size p = sum_by piece_size p.code
