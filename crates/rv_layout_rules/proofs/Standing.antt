-- The words of pieces lie in the code where they are laid.
use Rattle.std.proofs.Common.{◌≡◌, ℕ, ◌+◌, ◌*◌, ◌%◌, ◌^◌, ◌<◌, ◌≤◌, List, [], ◌∷◌, ◌++◌, length, map, Some, refl, sym, ap, ◌∙◌, subst, length-append, append_assoc, arith}
use Rattle.std.specs.Prelude.{slice_get}
use Rattle.std.specs.List.{AllByRecursion}
use Rattle.std.proofs.lemmas.List.{length-map, get_or_at}
use Rattle.std.proofs.lemmas.Option.{slice_get-get_or}
use Rattle.rv_emit_rules.proofs.Traverse.{number-below}
use Rattle.rv_layout_rules.specs.declared.form.Form.{Form}
use Rattle.rv_layout_rules.specs.declared.form.Form.TheVariants.{Near, Middle, Far}
use Rattle.rv_layout_rules.specs.Conditions.{HasAlignedTarget}
use Rattle.rv_pieces.specs.Named.{PieceFits}
use Rattle.rv_layout_rules.specs.Forms.{piece_words, total_words}
use Rattle.rv_layout_rules.specs.Laid.{address_of_place}
use Rattle.rv_layout_rules.specs.Stands.{HasEncodings, HasPieces}
use Rattle.rv_layout_rules.specs.Words.{NameAddresses, code_to, instructions_of_piece, target_of, words_from, words_to}
use Rattle.rv_isa.specs.Encoding.{InstrFits, encoded}
use Rattle.rv_isa.specs.declared.instr.Instr.{Instr}
use Rattle.rv_pieces.specs.declared.piece.Piece.{Piece}
use Rattle.rv_pieces.specs.declared.piece.Piece.TheVariants.{Known, Label, Branch, Jump, Row, LabelAddress, Call, TailCall, SymbolAddress, ExternalNumber, Descriptor}

-- ---- how many

pub code_length : (at to : ℕ) (p : Piece) (f : Form) → length (code_to at to p f) ≡ piece_words p f
code_length at to (Known i) f = refl
code_length at to (Label l) f = refl
code_length at to (Branch c a b l) Near = refl
code_length at to (Branch c a b l) Middle = refl
code_length at to (Branch c a b l) Far = refl
code_length at to (Jump l) Near = refl
code_length at to (Jump l) Middle = refl
code_length at to (Jump l) Far = refl
code_length at to (Row l) f = refl
code_length at to (LabelAddress r l) f = refl
code_length at to (Call name) Near = refl
code_length at to (Call name) Middle = refl
code_length at to (Call name) Far = refl
code_length at to (TailCall name) Near = refl
code_length at to (TailCall name) Middle = refl
code_length at to (TailCall name) Far = refl
code_length at to (SymbolAddress r name) f = refl
code_length at to (ExternalNumber r row) f = refl
code_length at to (Descriptor d) f = refl

pub words_length : (n : NameAddresses) (at : ℕ) (ps : List Piece) (fs : List Form) → length (words_from n at ps fs) ≡ total_words ps fs
words_length n at [] fs = refl
words_length n at (p ∷ ps) [] = refl
words_length n at (p ∷ ps) (f ∷ fs) =
    let rest = words_length n (at + 4 * piece_words p f) ps fs in
    let both = length-append (map encoded (instructions_of_piece n at p f)) (words_from n (at + 4 * piece_words p f) ps fs) in
    omega (arith, both, rest, length-map (instructions_of_piece n at p f) encoded, code_length at (target_of n p) p f)

-- ---- that they fit

pub code_fits : (at to : ℕ) (p : Piece) (f : Form) → PieceFits p → at % 4 ≡ 0 → at + 4 < 2 ^ 32 → HasAlignedTarget to p → AllByRecursion InstrFits (code_to at to p f)
code_fits at to (Known i) f fits a h leads = (fits, tt)
code_fits at to (Label l) f fits a h leads = tt
code_fits at to (Branch c r s l) Near fits a h leads = ((number-below r, number-below s, omega arith, omega (arith, a, leads, h)), tt)
code_fits at to (Branch c r s l) Middle fits a h leads =
    ((number-below r, number-below s, omega arith, omega arith), ((omega arith, omega arith, omega (arith, a, leads, h)), tt))
code_fits at to (Branch c r s l) Far fits a h leads =
    ((number-below r, number-below s, omega arith, omega arith), ((omega arith, omega arith), ((omega arith, omega arith, omega arith), tt)))
code_fits at to (Jump l) Near fits a h leads = ((omega arith, omega arith, omega (arith, a, leads, h)), tt)
code_fits at to (Jump l) Middle fits a h leads = ((omega arith, omega arith), ((omega arith, omega arith, omega arith), tt))
code_fits at to (Jump l) Far fits a h leads = ((omega arith, omega arith), ((omega arith, omega arith, omega arith), tt))
code_fits at to (Row l) f fits a h leads = ((omega arith, omega arith), ((omega arith, omega arith, omega arith), tt))
code_fits at to (LabelAddress r l) f fits a h leads = ((number-below r, omega arith), ((number-below r, number-below r, omega arith), tt))
code_fits at to (Call name) Near fits a h leads = ((omega arith, omega arith), ((omega arith, omega arith, omega arith), tt))
code_fits at to (Call name) Middle fits a h leads =
    ((omega arith, omega arith), ((omega arith, omega arith, omega arith), ((omega arith, omega arith, omega arith), tt)))
code_fits at to (Call name) Far fits a h leads =
    ((omega arith, omega arith), ((omega arith, omega arith, omega arith), ((omega arith, omega arith, omega arith), tt)))
code_fits at to (TailCall name) Near fits a h leads = ((omega arith, omega arith), ((omega arith, omega arith, omega arith), tt))
code_fits at to (TailCall name) Middle fits a h leads =
    ((omega arith, omega arith), ((omega arith, omega arith, omega arith), ((omega arith, omega arith, omega arith), tt)))
code_fits at to (TailCall name) Far fits a h leads =
    ((omega arith, omega arith), ((omega arith, omega arith, omega arith), ((omega arith, omega arith, omega arith), tt)))
code_fits at to (SymbolAddress r name) f fits a h leads = ((number-below r, omega arith), ((number-below r, number-below r, omega arith), tt))
code_fits at to (ExternalNumber r row) f fits a h leads = ((number-below r, omega arith), ((number-below r, number-below r, omega arith), tt))
code_fits at to (Descriptor d) f fits a h leads = tt

-- ---- where they are

here : (pre : List ℕ) (w : ℕ) (post : List ℕ) → slice_get (pre ++ w ∷ post) (length pre) ≡ Some w
here pre w post =
    let within : length pre + 1 ≤ length (pre ++ w ∷ post) = omega (arith, length-append pre (w ∷ post)) in
    slice_get-get_or (pre ++ w ∷ post) (length pre) 0 (omega (arith, within)) ∙ ap Some (get_or_at pre w post 0 (length pre) refl)

pub code_stands : (is : List Instr) (pre post : List ℕ) (at : ℕ) → at ≡ length pre → AllByRecursion InstrFits is → HasEncodings (pre ++ (map encoded is ++ post)) at is
code_stands [] pre post at e fits = tt
code_stands (i ∷ is) pre post at e fits =
    let w = encoded i in
    let rest = map encoded is ++ post in
    let next : at + 1 ≡ length (pre ++ w ∷ []) = omega (arith, e, length-append pre (w ∷ [])) in
    let later = code_stands is (pre ++ w ∷ []) post (at + 1) next fits.1 in
    let later' = subst (λ code. HasEncodings code (at + 1) is) (append_assoc pre (w ∷ []) rest) later in
    let first : slice_get (pre ++ w ∷ rest) at ≡ Some w = ap (slice_get (pre ++ w ∷ rest)) e ∙ here pre w rest in
    (first, fits.0, later')

-- Pieces are where their words are laid, after `pre`.
pub pieces_stand : (n : NameAddresses) (ps : List Piece) (fs : List Form) (pre post : List ℕ) (at : ℕ) → at ≡ length pre → length fs ≡ length ps →
    address_of_place (at + total_words ps fs) + 4 < 2 ^ 32 → AllByRecursion PieceFits ps → ((p : Piece) → HasAlignedTarget (target_of n p) p) →
    HasPieces (pre ++ (words_from n (address_of_place at) ps fs ++ post)) n at ps fs
pieces_stand n [] [] pre post at e same low fits leads = tt
pieces_stand n [] (f ∷ fs) pre post at e same low fits leads = absurd (omega (arith, same))
pieces_stand n (p ∷ ps) [] pre post at e same low fits leads = absurd (omega (arith, same))
pieces_stand n (p ∷ ps) (f ∷ fs) pre post at e same low fits leads =
    let address = address_of_place at in
    let own = instructions_of_piece n address p f in
    let words = map encoded own in
    let rest = words_from n (address + 4 * piece_words p f) ps fs in
    let length-own : length words ≡ piece_words p f = length-map own encoded ∙ code_length address (target_of n p) p f in
    let own-fits = code_fits address (target_of n p) p f fits.0 (omega arith) (omega (arith, low)) (leads p) in
    let same-words : pre ++ ((words ++ rest) ++ post) ≡ pre ++ (words ++ (rest ++ post)) = ap (λ l. pre ++ l) (append_assoc words rest post) in
    let first = subst (λ code. HasEncodings code at own) (sym same-words) (code_stands own pre (rest ++ post) at e own-fits) in
    let next : at + piece_words p f ≡ length (pre ++ words) = omega (arith, e, length-append pre words, length-own) in
    let place : address + 4 * piece_words p f ≡ address_of_place (at + piece_words p f) = omega arith in
    let low' : address_of_place (at + piece_words p f + total_words ps fs) + 4 < 2 ^ 32 = omega (arith, low) in
    let later = pieces_stand n ps fs (pre ++ words) post (at + piece_words p f) next (omega (arith, same)) low' fits.1 leads in
    let moved = subst (λ a. HasPieces ((pre ++ words) ++ (words_from n a ps fs ++ post)) n (at + piece_words p f) ps fs) (sym place) later in
    (first, subst (λ code. HasPieces code n (at + piece_words p f) ps fs) (append_assoc pre words (rest ++ post) ∙ sym same-words) moved)

-- The words of pieces are those of their targets, one by one.
pub words_by_targets : (n : NameAddresses) (at : ℕ) (ps : List Piece) (fs : List Form) → words_to at (map (target_of n) ps) ps fs ≡ words_from n at ps fs
words_by_targets n at [] fs = refl
words_by_targets n at (p ∷ ps) [] = refl
words_by_targets n at (p ∷ ps) (f ∷ fs) =
    ap (λ rest. map encoded (instructions_of_piece n at p f) ++ rest) (words_by_targets n (at + 4 * piece_words p f) ps fs)
