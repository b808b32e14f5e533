-- What pieces name, what places and marks they have, and whether their numbers fit.
use Rattle.std.specs.Prelude.{ℕ, Bool, true, false, List, [], ◌∷◌, ◌++◌, Option, Some, None, ⊤}
use Rattle.lin_ir.specs.Known.{External}
use Rattle.lin_ir.specs.declared.descr.Descr.{Descr}
use Rattle.rv_isa.specs.Encoding.{InstrFits}
use Rattle.rv_pieces.specs.declared.piece.Piece.{Piece}
use Rattle.rv_pieces.specs.declared.piece.Piece.TheVariants as piece

-- the numbers of an instruction fit their fields, but for those that a name gives
abbrev pub PieceFits : Piece → Type 0
PieceFits (piece.Known j) = InstrFits j
PieceFits _ = ⊤

-- the label to which a piece leads, or whose address it has
abbrev pub label_named : Piece → Option ℕ
label_named (piece.Branch c a b l) = Some l
label_named (piece.Jump l) = Some l
label_named (piece.Row l) = Some l
label_named (piece.LabelAddress r l) = Some l
label_named _ = None

abbrev pub symbol_named : Piece → Option (List ℕ)
symbol_named (piece.Call name) = Some name
symbol_named (piece.TailCall name) = Some name
symbol_named (piece.SymbolAddress r name) = Some name
symbol_named _ = None

abbrev pub external_named : Piece → Option External
external_named (piece.ExternalNumber r row) = Some row
external_named _ = None

-- the labels whose places are among the pieces, in order
abbrev pub labels_of_piece : Piece → List ℕ
labels_of_piece (piece.Label l) = l ∷ []
labels_of_piece _ = []

abbrev pub places_in : List Piece → List ℕ
places_in [] = []
places_in (p ∷ ps) = labels_of_piece p ++ places_in ps

-- the descriptors, in order
abbrev pub mark_in : Piece → List Descr
mark_in (piece.Descriptor d) = d ∷ []
mark_in _ = []

abbrev pub marks_in : List Piece → List Descr
marks_in [] = []
marks_in (p ∷ ps) = mark_in p ++ marks_in ps

-- whether a piece has words, in every form
abbrev pub has_words : Piece → Bool
has_words (piece.Label l) = false
has_words (piece.Descriptor d) = false
has_words _ = true
