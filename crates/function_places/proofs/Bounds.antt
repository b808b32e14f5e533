-- How many words pieces are, and how large their descriptors.
use Rattle.std.proofs.Common.{◌*◌, ◌≤◌, List, [], ◌∷◌, length, arith}
use Rattle.std.specs.Prelude.{sum_by}
use Rattle.std.proofs.lemmas.List.Sums.{sum_by-cons}
use Rattle.function_places.specs.Places.{size_of}
use Rattle.function_places.specs.Sizes.{piece_size}
use Rattle.rv_layout_rules.specs.declared.form.Form.{Form}
use Rattle.rv_layout_rules.specs.declared.form.Form.TheVariants.{Near, Middle, Far}
use Rattle.rv_layout_rules.specs.Conditions.{piece_weight, weight_of}
use Rattle.rv_layout_rules.specs.Forms.{piece_words, total_words, all_words}
use Rattle.rv_pieces.specs.declared.piece.Piece.{Piece}
use Rattle.rv_pieces.specs.declared.piece.Piece.TheVariants.{Known, Label, Branch, Jump, Row, LabelAddress, Call, TailCall, SymbolAddress, ExternalNumber, Descriptor}
use Rattle.rv_pieces.specs.declared.piece.Pieces.{Pieces}

-- ---- words

piece_most : (p : Piece) (f : Form) → piece_words p f ≤ 3
piece_most (Known i) f = omega arith
piece_most (Label l) f = omega arith
piece_most (Branch c a b l) Near = omega arith
piece_most (Branch c a b l) Middle = omega arith
piece_most (Branch c a b l) Far = omega arith
piece_most (Jump l) Near = omega arith
piece_most (Jump l) Middle = omega arith
piece_most (Jump l) Far = omega arith
piece_most (Row l) f = omega arith
piece_most (LabelAddress r l) f = omega arith
piece_most (Call name) Near = omega arith
piece_most (Call name) Middle = omega arith
piece_most (Call name) Far = omega arith
piece_most (TailCall name) Near = omega arith
piece_most (TailCall name) Middle = omega arith
piece_most (TailCall name) Far = omega arith
piece_most (SymbolAddress r name) f = omega arith
piece_most (ExternalNumber r row) f = omega arith
piece_most (Descriptor d) f = omega arith

pub words_most : (ps : List Piece) (fs : List Form) → total_words ps fs ≤ 3 * length ps
words_most [] fs = omega arith
words_most (p ∷ ps) [] = omega arith
words_most (p ∷ ps) (f ∷ fs) = omega (arith, piece_most p f, words_most ps fs)

weight_some : (p : Piece) → 1 ≤ piece_weight p
weight_some (Known i) = omega arith
weight_some (Label l) = omega arith
weight_some (Branch c a b l) = omega arith
weight_some (Jump l) = omega arith
weight_some (Row l) = omega arith
weight_some (LabelAddress r l) = omega arith
weight_some (Call name) = omega arith
weight_some (TailCall name) = omega arith
weight_some (SymbolAddress r name) = omega arith
weight_some (ExternalNumber r row) = omega arith
weight_some (Descriptor d) = omega arith

pub length_most : (ps : List Piece) → length ps ≤ weight_of ps
length_most [] = omega arith
length_most (p ∷ ps) = omega (arith, sum_by-cons piece_weight p ps, weight_some p, length_most ps)

pub all_most : (ps : List Pieces) (forms : List (List Form)) → all_words ps forms ≤ 3 * sum_by size_of ps
all_most [] forms = omega arith
all_most (p ∷ ps) [] = omega arith
all_most (p ∷ ps) (f ∷ forms) =
    omega (arith, sum_by-cons size_of p ps, words_most p.code f, length_most p.code, all_most ps forms)

-- ---- descriptors

descriptor_most : (p : Piece) → piece_size p ≤ 12 * piece_weight p
descriptor_most (Known i) = omega arith
descriptor_most (Label l) = omega arith
descriptor_most (Branch c a b l) = omega arith
descriptor_most (Jump l) = omega arith
descriptor_most (Row l) = omega arith
descriptor_most (LabelAddress r l) = omega arith
descriptor_most (Call name) = omega arith
descriptor_most (TailCall name) = omega arith
descriptor_most (SymbolAddress r name) = omega arith
descriptor_most (ExternalNumber r row) = omega arith
descriptor_most (Descriptor d) = omega arith

pub code_most : (ps : List Piece) → sum_by piece_size ps ≤ 12 * weight_of ps
code_most [] = omega arith
code_most (p ∷ ps) = omega (arith, sum_by-cons piece_size p ps, sum_by-cons piece_weight p ps, descriptor_most p, code_most ps)
