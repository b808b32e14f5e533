-- How tables and forms grow while the pieces of a function are walked.
use Rattle.std.proofs.Common.{◌≡◌, ℕ, zero, suc, ◌+◌, ◌≤◌, ◌<◌, List, [], ◌∷◌, ◌++◌, length, get_or, drop, replicate, refl, sym, ap, ◌∙◌, subst, append_assoc, drop-cons, arith}
use Rattle.std.proofs.lemmas.List.{drop_all, append-nil}
use Rattle.rv_layout_rules.specs.declared.form.Form.{Form}
use Rattle.rv_layout_rules.specs.declared.form.Form.TheVariants.{Near}
use Rattle.rv_layout_rules.specs.Forms.{piece_words, none_far, needed_form, longer, grown_from, AllNear, ranks}
use Rattle.rv_layout_rules.specs.Laid.{descriptor_laid_at, descs_in}
use Rattle.rv_layout.specs.Descs.{desc_in}
use Rattle.rv_layout.specs.Tables.{LabelBelow, LabelsBelow}
use Rattle.rv_pieces.specs.declared.piece.Piece.{Piece}
use Rattle.rv_pieces.specs.declared.piece.Piece.TheVariants.{Known, Label, Branch, Jump, Row, LabelAddress, Call, TailCall, SymbolAddress, ExternalNumber, Descriptor}
use Rattle.bs_words.proofs.Lists.{drop_step}

pub drop_from : {A : Type 0} → (xs : List A) (i : ℕ) (d : A) → i < length xs → drop i xs ≡ get_or xs i d ∷ drop (i + 1) xs
drop_from xs i d h =
    let next : suc i ≡ i + 1 = omega arith in
    drop-cons xs i d h ∙ ap (λ n. get_or xs i d ∷ drop n xs) next

-- ---- labels

pub below_step : (c i : ℕ) (ps : List Piece) (p : Piece) → i < length ps → p ≡ get_or ps i p → LabelBelow c p → LabelsBelow c (drop (i + 1) ps) → LabelsBelow c (drop i ps)
below_step c i ps p h e own rest = subst (LabelsBelow c) (sym (drop_step ps i p h e)) (own, rest)

-- ---- forms

pub needed_same : (places places' : ℕ → ℕ) (at : ℕ) (p : Piece) → ((l : ℕ) → places l ≡ places' l) → needed_form none_far places at p ≡ needed_form none_far places' at p
needed_same places places' at (Known i) e = refl
needed_same places places' at (Label k) e = refl
needed_same places places' at (Branch c a b k) e = rw (e k) refl
needed_same places places' at (Jump k) e = rw (e k) refl
needed_same places places' at (Row k) e = refl
needed_same places places' at (LabelAddress r k) e = refl
needed_same places places' at (Call name) e = refl
needed_same places places' at (TailCall name) e = refl
needed_same places places' at (SymbolAddress r name) e = refl
needed_same places places' at (ExternalNumber r row) e = refl
needed_same places places' at (Descriptor d) e = refl

pub grown_same : (places places' : ℕ → ℕ) (at : ℕ) (ps : List Piece) (fs : List Form) → ((l : ℕ) → places l ≡ places' l) → grown_from none_far places at ps fs ≡ grown_from none_far places' at ps fs
grown_same places places' at [] fs e = refl
grown_same places places' at (p ∷ ps) [] e = refl
grown_same places places' at (p ∷ ps) (f ∷ fs) e =
    let own = needed_same places places' at p e in
    let rest = grown_same places places' (at + piece_words p f) ps fs e in
    rw (own, rest) refl

pub grown_step : (places : ℕ → ℕ) (code : List Piece) (forms next all : List Form) (i at : ℕ) (p : Piece) (d : Form) →
    i < length code → p ≡ get_or code i p → i < length forms →
    next ++ grown_from none_far places at (drop i code) (drop i forms) ≡ all →
    (next ++ longer (get_or forms i d) (needed_form none_far places at p) ∷ []) ++ grown_from none_far places (at + piece_words p (get_or forms i d)) (drop (i + 1) code) (drop (i + 1) forms) ≡ all
grown_step places code forms next all i at p d h e k so_far =
    let f = get_or forms i d in
    let here : grown_from none_far places at (drop i code) (drop i forms) ≡ longer f (needed_form none_far places at p) ∷ grown_from none_far places (at + piece_words p f) (drop (i + 1) code) (drop (i + 1) forms) =
    rw (drop_step code i p h e, drop_from forms i d k) refl in
    append_assoc next (longer f (needed_form none_far places at p) ∷ []) (grown_from none_far places (at + piece_words p f) (drop (i + 1) code) (drop (i + 1) forms))
    ∙ (ap (λ rest. next ++ rest) (sym here) ∙ so_far)

pub grown_end : (places : ℕ → ℕ) (code : List Piece) (forms next all : List Form) (i at : ℕ) → length code ≤ i →
    next ++ grown_from none_far places at (drop i code) (drop i forms) ≡ all → next ≡ all
grown_end places code forms next all i at h so_far =
    let none : grown_from none_far places at (drop i code) (drop i forms) ≡ [] = rw (drop_all i code h) refl in
    sym (append-nil next) ∙ (ap (λ rest. next ++ rest) (sym none) ∙ so_far)

pub all_near : (n : ℕ) → AllNear (replicate n Near)
all_near zero = tt
all_near (suc n) = (refl, all_near n)

pub ranks_near : (n : ℕ) → ranks (replicate n Near) ≡ 0
ranks_near zero = refl
ranks_near (suc n) = let e = ranks_near n in omega (arith, e)

-- ---- descriptors

pub descs_step : (at : ℕ) (p : Piece) (f : Form) (ps : List Piece) (fs : List Form) → descs_in at (p ∷ ps) (f ∷ fs) ≡ desc_in at p ++ descs_in (at + piece_words p f) ps fs
descs_step at (Known i) f ps fs = refl
descs_step at (Label k) f ps fs = refl
descs_step at (Branch c a b k) f ps fs = refl
descs_step at (Jump k) f ps fs = refl
descs_step at (Row k) f ps fs = refl
descs_step at (LabelAddress r k) f ps fs = refl
descs_step at (Call name) f ps fs = refl
descs_step at (TailCall name) f ps fs = refl
descs_step at (SymbolAddress r name) f ps fs = refl
descs_step at (ExternalNumber r row) f ps fs = refl
descs_step at (Descriptor d) f ps fs =
    let same : at ≡ at + 0 = omega arith in
    ap (λ n. descriptor_laid_at at d ∷ descs_in n ps fs) same
