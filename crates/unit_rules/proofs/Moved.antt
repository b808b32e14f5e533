-- A unit's words at a place are its own words with its entries applied.
use Rattle.std.proofs.Common.{◌≡◌, ℕ, ◌+◌, ◌*◌, ◌%◌, ◌^◌, ◌<◌, ◌≤◌, Bool, true, false, cond, List, [], ◌∷◌, ◌++◌, length, map, bytes_eq, refl, sym, ap, ◌∙◌, length-append, append_assoc, arith}
use Rattle.std.specs.Prelude.{⊤}
use Rattle.std.proofs.lemmas.List.{length-map}
use Rattle.std.proofs.lemmas.Slice.Eq.{bytes_eq-Decides}
use Rattle.bs_words.specs.Fits.{data_start}
use Rattle.bs_words.specs.Symbol.{caml_bound_error}
use Rattle.cmm_tree.specs.Tree.{FileTree}
use Rattle.rv_emit_rules.specs.Instructions.{low_12}
use Rattle.rv_emit_rules.proofs.Traverse.{number-below}
use Rattle.rv_layout_rules.specs.declared.form.Form.{Form}
use Rattle.rv_layout_rules.specs.declared.form.Form.TheVariants.{Near, Middle, Far}
use Rattle.rv_layout_rules.specs.Forms.{piece_words, total_words}
use Rattle.rv_layout_rules.specs.Words.{NameAddresses, upper, distance, far_jump, inverted, branch_code, jump_code, call_code, number_into, address_into, instructions_of_piece, target_of, words_from}
use Rattle.rv_layout_rules.specs.Externals.{externals, external_number}
use Rattle.rv_layout_rules.specs.Laid.{address_of_place, code_from, function_words}
use Rattle.rv_layout_rules.proofs.Standing.{code_length, words_length}
use Rattle.bs_words.specs.External.{External}
use Rattle.rv_pieces.specs.declared.piece.Pieces.{Pieces}
use Rattle.mach_ir.specs.Acts.{external_row}
use Rattle.rv_isa.specs.Encoding.{encoded}
use Rattle.rv_isa.specs.Registers.{register_number, ra, t1}
use Rattle.rv_isa.specs.declared.instr.AluImmOp.TheVariants.{Addi}
use Rattle.rv_isa.specs.declared.instr.Condition.{Condition}
use Rattle.rv_isa.specs.declared.instr.Instr.{Instr}
use Rattle.rv_isa.specs.declared.instr.Instr.TheVariants as instr
use Rattle.rv_isa.specs.declared.register.Register.{Register}
use Rattle.rv_pieces.specs.declared.piece.Piece.{Piece}
use Rattle.rv_pieces.specs.declared.piece.Piece.TheVariants.{Known, Label, Branch, Jump, Row, LabelAddress, Call, TailCall, SymbolAddress, ExternalNumber, Descriptor}
use Rattle.unit_rules.specs.Relocated.{with_upper, with_lower, set_pair, set_pair_at, PairEntry, entries_applied, symbol_entry, call_entry, entries_of_piece, entries_of_pieces, entries_of_code, names_by, code_by, symbol_addresses, CalleeMoves, CallMoves, CallsMove, AllCallsMove}

-- ---- one pair

lui_gets : (rd a b : ℕ) → rd < 32 → with_upper b (encoded (instr.Lui rd (upper a))) ≡ encoded (instr.Lui rd (upper b))
unfolding encoded
lui_gets rd a b h = omega (arith, h)

addi_gets : (rd a b : ℕ) → rd < 32 → with_lower b (encoded (instr.OpImm Addi rd rd (low_12 a))) ≡ encoded (instr.OpImm Addi rd rd (low_12 b))
unfolding encoded
addi_gets rd a b h = omega (arith, h)

pub pair_gets : (rd a b : ℕ) (rest : List ℕ) → rd < 32 → set_pair b (map encoded (number_into rd a) ++ rest) ≡ map encoded (number_into rd b) ++ rest
pair_gets rd a b rest h = λ i. lui_gets rd a b h i ∷ addi_gets rd a b h i ∷ rest

-- ---- what is relative

same_distance : (d from to from' to' : ℕ) → from' ≡ from + d → to' ≡ to + d → from' ≤ 2 ^ 32 → distance from' to' ≡ distance from to
same_distance d from to from' to' e k h = omega (arith, e, k, h)

far_moves : (link through d from to from' to' : ℕ) → from' ≡ from + d → to' ≡ to + d → from' ≤ 2 ^ 32 → far_jump link through from' to' ≡ far_jump link through from to
far_moves link through d from to from' to' e k h =
    let same = same_distance d from to from' to' e k h in
    λ i. instr.Auipc through (upper (same i)) ∷ instr.Jalr link through (low_12 (same i)) ∷ []

branch_moves : (f : Form) (c : Condition) (a b : Register) (d at to to' : ℕ) → to' ≡ to + d → at + d + 8 < 2 ^ 32 → branch_code f c a b (at + d) to' ≡ branch_code f c a b at to
branch_moves Near c a b d at to to' k h =
    let same = same_distance d at to (at + d) to' refl k (omega (arith, h)) in
    λ i. instr.Branch c (register_number a) (register_number b) (same i % 2 ^ 13) ∷ []
branch_moves Middle c a b d at to to' k h =
    let same = same_distance d (at + 4) to (at + d + 4) to' (omega arith) k (omega (arith, h)) in
    λ i. instr.Branch (inverted c) (register_number a) (register_number b) 8 ∷ instr.Jal 0 (same i % 2 ^ 21) ∷ []
branch_moves Far c a b d at to to' k h =
    let same = far_moves 0 t1 d (at + 4) to (at + d + 4) to' (omega arith) k (omega (arith, h)) in
    λ i. instr.Branch (inverted c) (register_number a) (register_number b) 12 ∷ same i

jump_moves : (f : Form) (d at to to' : ℕ) → to' ≡ to + d → at + d + 8 < 2 ^ 32 → jump_code f (at + d) to' ≡ jump_code f at to
jump_moves Near d at to to' k h =
    let same = same_distance d at to (at + d) to' refl k (omega (arith, h)) in
    λ i. instr.Jal 0 (same i % 2 ^ 21) ∷ []
jump_moves Middle d at to to' k h = far_moves 0 t1 d at to (at + d) to' refl k (omega (arith, h))
jump_moves Far d at to to' k h = far_moves 0 t1 d at to (at + d) to' refl k (omega (arith, h))

address_moves : (rd d at to to' : ℕ) → to' ≡ to + d → at + d + 8 < 2 ^ 32 → address_into rd (at + d) to' ≡ address_into rd at to
address_moves rd d at to to' k h =
    let same = same_distance d at to (at + d) to' refl k (omega (arith, h)) in
    λ i. instr.Auipc rd (upper (same i)) ∷ instr.OpImm Addi rd rd (low_12 (same i)) ∷ []

-- ---- one piece

-- an entry changes the two words at its place
set_past : (pre : List ℕ) (n : ℕ) (words : List ℕ) → set_pair_at (length pre) n (pre ++ words) ≡ pre ++ set_pair n words
set_past [] n words = refl
set_past (w ∷ pre) n words = λ i. w ∷ set_past pre n words i

one_entry : (pre : List ℕ) (rd a b : ℕ) (rest : List ℕ) → rd < 32 →
    entries_applied (record { place = length pre; number = b } ∷ []) (pre ++ (map encoded (number_into rd a) ++ rest)) ≡ pre ++ (map encoded (number_into rd b) ++ rest)
one_entry pre rd a b rest h =
    set_past pre b (map encoded (number_into rd a) ++ rest) ∙ ap (λ words. pre ++ words) (pair_gets rd a b rest h)

alike : (pre rest : List ℕ) {is js : List Instr} → js ≡ is → pre ++ (map encoded is ++ rest) ≡ pre ++ (map encoded js ++ rest)
alike pre rest same = ap (λ (ks : List Instr). pre ++ (map encoded ks ++ rest)) (sym same)

-- the pair of a symbol, which has no entry where it is the one that stays
symbol_moves : (n m : NameAddresses) (name : List ℕ) (pre : List ℕ) (rd : ℕ) (rest : List ℕ) → rd < 32 → n.symbol caml_bound_error ≡ m.symbol caml_bound_error →
    entries_applied (symbol_entry (length pre) (m.symbol name) name) (pre ++ (map encoded (number_into rd (n.symbol name)) ++ rest))
    ≡ pre ++ (map encoded (number_into rd (m.symbol name)) ++ rest)
symbol_moves n m name pre rd rest low stays = by (bytes_eq name caml_bound_error) refl
  where
    by : (b : Bool) → bytes_eq name caml_bound_error ≡ b →
        entries_applied (cond b [] (record { place = length pre; number = m.symbol name } ∷ [])) (pre ++ (map encoded (number_into rd (n.symbol name)) ++ rest))
        ≡ pre ++ (map encoded (number_into rd (m.symbol name)) ++ rest)
    by true e =
        let own : name ≡ caml_bound_error = (bytes_eq-Decides name caml_bound_error).0 e in
        let same : n.symbol name ≡ m.symbol name =
        ap (λ (x : List ℕ). n.symbol x) own ∙ stays ∙ ap (λ (x : List ℕ). m.symbol x) (sym own) in
        ap (λ a. pre ++ (map encoded (number_into rd a) ++ rest)) same
    by false e = one_entry pre rd (n.symbol name) (m.symbol name) rest low

call_moves : (n m : NameAddresses) (name : List ℕ) (f : Form) (link through d at : ℕ) (pre rest : List ℕ) → through < 32 →
    CalleeMoves d (n.symbol name) (m.symbol name) f → n.symbol caml_bound_error ≡ m.symbol caml_bound_error → at + d + 8 < 2 ^ 32 →
    entries_applied (call_entry (length pre) (m.symbol name) name f) (pre ++ (map encoded (call_code f link through at (n.symbol name)) ++ rest))
    ≡ pre ++ (map encoded (call_code f link through (at + d) (m.symbol name)) ++ rest)
call_moves n m name Near link through d at pre rest low moves stays h =
    alike pre rest (far_moves link through d at (n.symbol name) (at + d) (m.symbol name) refl moves (omega (arith, h)))
call_moves n m name Middle link through d at pre rest low moves stays h = symbol_moves n m name pre through (encoded (instr.Jalr link through 0) ∷ rest) low stays
call_moves n m name Far link through d at pre rest low moves stays h = symbol_moves n m name pre through (encoded (instr.Jalr link through 0) ∷ rest) low stays

-- What a piece names relative to itself is moved by so many bytes. A call by its form is relative or not.
abbrev PieceMoves : (d : ℕ) → NameAddresses → NameAddresses → Piece → Form → Type 0
PieceMoves d n m (Branch c a b l) form = m.label l ≡ n.label l + d
PieceMoves d n m (Jump l) form = m.label l ≡ n.label l + d
PieceMoves d n m (Row l) form = m.label l ≡ n.label l + d
PieceMoves d n m (LabelAddress r l) form = m.label l ≡ n.label l + d
PieceMoves d n m (Call name) form = CalleeMoves d (n.symbol name) (m.symbol name) form
PieceMoves d n m (TailCall name) form = CalleeMoves d (n.symbol name) (m.symbol name) form
PieceMoves d n m _ form = ⊤

piece_moves : (n m : NameAddresses) (d at : ℕ) (p : Piece) (f : Form) (pre rest : List ℕ) → PieceMoves d n m p f → n.symbol caml_bound_error ≡ m.symbol caml_bound_error → at + d + 8 < 2 ^ 32 →
    entries_applied (entries_of_piece m (length pre) p f) (pre ++ (map encoded (instructions_of_piece n at p f) ++ rest)) ≡ pre ++ (map encoded (instructions_of_piece m (at + d) p f) ++ rest)
piece_moves n m d at (Known j) f pre rest moves stays h = refl
piece_moves n m d at (Label l) f pre rest moves stays h = refl
piece_moves n m d at (Branch c a b l) f pre rest moves stays h = alike pre rest (branch_moves f c a b d at (n.label l) (m.label l) moves h)
piece_moves n m d at (Jump l) f pre rest moves stays h = alike pre rest (jump_moves f d at (n.label l) (m.label l) moves h)
piece_moves n m d at (Row l) f pre rest moves stays h = alike pre rest (far_moves 0 t1 d at (n.label l) (at + d) (m.label l) refl moves (omega (arith, h)))
piece_moves n m d at (LabelAddress r l) f pre rest moves stays h = alike pre rest (address_moves (register_number r) d at (n.label l) (m.label l) moves h)
piece_moves n m d at (Call name) f pre rest moves stays h = call_moves n m name f ra ra d at pre rest (omega arith) moves stays h
piece_moves n m d at (TailCall name) f pre rest moves stays h = call_moves n m name f 0 t1 d at pre rest (omega arith) moves stays h
piece_moves n m d at (SymbolAddress r name) f pre rest moves stays h = symbol_moves n m name pre (register_number r) rest (number-below r) stays
piece_moves n m d at (ExternalNumber r row) f pre rest moves stays h = one_entry pre (register_number r) (n.external (external_row row)) (m.external (external_row row)) rest (number-below r)
piece_moves n m d at (Descriptor e) f pre rest moves stays h = refl

-- ---- all pieces

applied_both : (es fs : List PairEntry) (words : List ℕ) → entries_applied (es ++ fs) words ≡ entries_applied fs (entries_applied es words)
applied_both [] fs words = refl
applied_both (e ∷ es) fs words = applied_both es fs (set_pair_at e.place e.number words)

abbrev AllMove : (d : ℕ) → NameAddresses → NameAddresses → List Piece → List Form → Type 0
AllMove d n m [] forms = ⊤
AllMove d n m (p ∷ ps) [] = ⊤
AllMove d n m (p ∷ ps) (f ∷ forms) = PieceMoves d n m p f × AllMove d n m ps forms

-- The words of pieces, between others, where they are moved by d bytes and their entries are applied.
words_move : (n m : NameAddresses) (d at : ℕ) (ps : List Piece) (fs : List Form) (pre post : List ℕ) → AllMove d n m ps fs → n.symbol caml_bound_error ≡ m.symbol caml_bound_error → at + 4 * total_words ps fs + d + 8 < 2 ^ 32 →
    entries_applied (entries_of_pieces m (length pre) ps fs) (pre ++ (words_from n at ps fs ++ post)) ≡ pre ++ (words_from m (at + d) ps fs ++ post)
words_move n m d at [] fs pre post moves stays h = refl
words_move n m d at (p ∷ ps) [] pre post moves stays h = refl
words_move n m d at (p ∷ ps) (f ∷ fs) pre post moves stays h =
    let k = piece_words p f in
    let own = map encoded (instructions_of_piece n at p f) in
    let own' = map encoded (instructions_of_piece m (at + d) p f) in
    let rest = words_from n (at + 4 * k) ps fs in
    let rest' = words_from m (at + 4 * k + d) ps fs in
    let long : length (pre ++ own') ≡ length pre + k =
    length-append pre own' ∙ ap (λ x. length pre + x) (length-map (instructions_of_piece m (at + d) p f) encoded ∙ code_length (at + d) (target_of m p) p f) in
    let apart : (own ++ rest) ++ post ≡ own ++ (rest ++ post) = append_assoc own rest post in
    let first = piece_moves n m d at p f pre (rest ++ post) moves.0 stays (omega (arith, h)) in
    let later = words_move n m d (at + 4 * k) ps fs (pre ++ own') post moves.1 stays (omega (arith, h)) in
    let es = entries_of_pieces m (length pre + k) ps fs in
    let both = applied_both (entries_of_piece m (length pre) p f) es (pre ++ ((own ++ rest) ++ post)) in
    let assoc = append_assoc pre own' (rest ++ post) in
    let assoc' = append_assoc pre own' (rest' ++ post) in
    let place : at + 4 * k + d ≡ at + d + 4 * k = omega arith in
    both ∙ ap (λ x. entries_applied es (entries_applied (entries_of_piece m (length pre) p f) (pre ++ x))) apart
    ∙ ap (entries_applied es) (first ∙ sym assoc)
    ∙ ap (λ x. entries_applied (entries_of_pieces m x ps fs) ((pre ++ own') ++ (rest ++ post))) (sym long) ∙ later ∙ assoc'
    ∙ ap (λ x. pre ++ (own' ++ (words_from m x ps fs ++ post))) place
    ∙ ap (λ x. pre ++ x) (sym (append_assoc own' (words_from m (at + d + 4 * k) ps fs) post))

-- ---- all functions

labels_move : (symbol symbol' : List ℕ → ℕ) (external external' : External → ℕ) (q at : ℕ) (whole : List Piece) (forms : List Form) (ps : List Piece) (fs : List Form) →
    CallsMove (4 * q) symbol symbol' ps fs →
    AllMove (4 * q) (names_by symbol external at whole forms) (names_by symbol' external' (q + at) whole forms) ps fs
labels_move symbol symbol' external external' q at whole forms [] fs calls = tt
labels_move symbol symbol' external external' q at whole forms (p ∷ ps) [] calls = tt
labels_move symbol symbol' external external' q at whole forms (p ∷ ps) (f ∷ fs) calls =
    (by p calls.0, labels_move symbol symbol' external external' q at whole forms ps fs calls.1)
  where
    by : (p : Piece) → CallMoves (4 * q) symbol symbol' p f → PieceMoves (4 * q) (names_by symbol external at whole forms) (names_by symbol' external' (q + at) whole forms) p f
    by (Known j) h = tt
    by (Label l) h = tt
    by (Branch c a b l) h = omega arith
    by (Jump l) h = omega arith
    by (Row l) h = omega arith
    by (LabelAddress r l) h = omega arith
    by (Call name) h = h
    by (TailCall name) h = h
    by (SymbolAddress r name) h = tt
    by (ExternalNumber r row) h = tt
    by (Descriptor e) h = tt

-- The code of a unit, whose functions begin at word `at` of it, is what it is at word `q` of an image, once its
-- entries are applied there.
pub code_moves : (symbol symbol' : List ℕ → ℕ) (external external' : External → ℕ) (q at : ℕ) (ps : List Pieces) (forms : List (List Form)) (pre post : List ℕ) →
    length pre ≡ q + at → AllCallsMove (4 * q) symbol symbol' ps forms → symbol caml_bound_error ≡ symbol' caml_bound_error → address_of_place (q + at + length (code_by symbol external at ps forms)) + 8 < 2 ^ 32 →
    entries_applied (entries_of_code symbol' external' (q + at) ps forms) (pre ++ (code_by symbol external at ps forms ++ post))
    ≡ pre ++ (code_by symbol' external' (q + at) ps forms ++ post)
code_moves symbol symbol' external external' q at [] forms pre post place calls stays h = refl
code_moves symbol symbol' external external' q at (p ∷ ps) [] pre post place calls stays h = refl
code_moves symbol symbol' external external' q at (p ∷ ps) (f ∷ forms) pre post place calls stays h =
    let n = names_by symbol external at p.code f in
    let m = names_by symbol' external' (q + at) p.code f in
    let k = total_words p.code f in
    let own = words_from n (address_of_place at) p.code f in
    let own' = words_from m (address_of_place (q + at)) p.code f in
    let rest = code_by symbol external (at + k) ps forms in
    let rest' = code_by symbol' external' (q + (at + k)) ps forms in
    let long-own = words_length n (address_of_place at) p.code f in
    let long-own' = words_length m (address_of_place (q + at)) p.code f in
    let sum = length-append own rest in
    let es = entries_of_code symbol' external' (q + at + k) ps forms in
    let before = entries_of_pieces m (q + at) p.code f in
    let moved : address_of_place at + 4 * q ≡ address_of_place (q + at) = omega arith in
    let first : entries_applied before (pre ++ (own ++ (rest ++ post))) ≡ pre ++ (own' ++ (rest ++ post)) =
    ap (λ x. entries_applied (entries_of_pieces m x p.code f) (pre ++ (own ++ (rest ++ post)))) (sym place)
    ∙ words_move n m (4 * q) (address_of_place at) p.code f pre (rest ++ post) (labels_move symbol symbol' external external' q at p.code f p.code f calls.0) stays
    (omega (arith, h, sum, long-own))
    ∙ ap (λ x. pre ++ (words_from m x p.code f ++ (rest ++ post))) moved in
    let there : length (pre ++ own') ≡ q + (at + k) = omega (arith, length-append pre own', long-own', place) in
    let again : q + at + k ≡ q + (at + k) = omega arith in
    let later = code_moves symbol symbol' external external' q (at + k) ps forms (pre ++ own') post there calls.1 stays (omega (arith, h, sum, long-own)) in
    applied_both before es (pre ++ ((own ++ rest) ++ post))
    ∙ ap (λ x. entries_applied es (entries_applied before (pre ++ x))) (append_assoc own rest post)
    ∙ ap (entries_applied es) (first ∙ sym (append_assoc pre own' (rest ++ post)))
    ∙ ap (λ x. entries_applied (entries_of_code symbol' external' x ps forms) ((pre ++ own') ++ (rest ++ post))) again
    ∙ later
    ∙ append_assoc pre own' (rest' ++ post)
    ∙ ap (λ x. pre ++ x) (sym (append_assoc own' rest' post))
    ∙ ap (λ x. pre ++ ((own' ++ code_by symbol' external' x ps forms) ++ post)) (sym again)

-- ---- the code of an image

pub code_named : (file : FileTree) (entries : List ℕ) (at : ℕ) (ps : List Pieces) (forms : List (List Form)) →
    code_from file entries at ps forms ≡ code_by (symbol_addresses file entries) (external_number (externals file)) at ps forms
code_named file entries at [] forms = refl
code_named file entries at (p ∷ ps) [] = refl
code_named file entries at (p ∷ ps) (f ∷ forms) =
    ap (λ rest. function_words file entries at p.code f ++ rest) (code_named file entries (at + total_words p.code f) ps forms)

-- the built-in list comes first in the data of every file
pub built_in_stays : (file : FileTree) (entries : List ℕ) → symbol_addresses file entries caml_bound_error ≡ data_start
built_in_stays file entries = refl
