-- How many words pieces have, at the least and at the most.
--
-- A branch is one word, or over a jump: up to three. A jump is at most two, a call three.
use Rattle.std.specs.Prelude.{ℕ, ◌+◌, ◌*◌, List, [], ◌∷◌, length}
use Rattle.lin_ir.specs.declared.lin.Flow.TheVariants as flow
use Rattle.lin_ir.specs.declared.lin.LinOp.{LinOp}
use Rattle.lin_ir.specs.declared.lin.LinOp.TheVariants as lin
use Rattle.lin_ir.specs.declared.lin.Line.{Line}
use Rattle.rv_pieces.specs.declared.piece.Piece.{Piece}
use Rattle.rv_pieces.specs.declared.piece.Piece.TheVariants as piece

abbrev pub most_piece_words : Piece → ℕ
most_piece_words (piece.Known j) = 1
most_piece_words (piece.Label l) = 0
most_piece_words (piece.Branch c a b l) = 3
most_piece_words (piece.Jump l) = 2
most_piece_words (piece.Row l) = 2
most_piece_words (piece.LabelAddress r l) = 2
most_piece_words (piece.Call name) = 3
most_piece_words (piece.TailCall name) = 3
most_piece_words (piece.SymbolAddress r name) = 2
most_piece_words (piece.ExternalNumber r row) = 2
most_piece_words (piece.Descriptor d) = 0

abbrev pub words_at_most : List Piece → ℕ
words_at_most [] = 0
words_at_most (p ∷ ps) = most_piece_words p + words_at_most ps

-- the instructions that pieces have whatever lies between them and their targets
abbrev pub least_words : Piece → ℕ
least_words (piece.Label l) = 0
least_words (piece.Descriptor d) = 0
least_words _ = 1

abbrev pub words_at_least : List Piece → ℕ
words_at_least [] = 0
words_at_least (p ∷ ps) = least_words p + words_at_least ps

-- ---- bounds by the lines

-- the indexes of a switch
abbrev pub switch_index_count : LinOp → ℕ
switch_index_count (lin.Flow (flow.Switch labels)) = length labels
switch_index_count _ = 0

abbrev pub line_bound : Line → ℕ
line_bound i = 32 + 16 * length i.results + 4 * switch_index_count i.op

abbrev pub lines_bound : List Line → ℕ
lines_bound [] = 0
lines_bound (i ∷ is) = line_bound i + lines_bound is
