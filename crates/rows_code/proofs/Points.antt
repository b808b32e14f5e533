-- Slots make descriptors that keep the rules of images, and points make functions that can be laid out.
use Rattle.std.proofs.Common.{◌≡◌, ℕ, suc, ◌+◌, ◌*◌, ◌%◌, ◌/◌, ◌^◌, ◌<◌, ◌≤◌, Bool, true, false, cond, List, [], ◌∷◌, ◌++◌, length, None, refl, sym, ap, subst, length-append, arith, inl, inr}
use Rattle.std.specs.List.{AllByRecursion, count_by}
use Rattle.std.proofs.lemmas.List.Sums.{sum_by-append, sum_by-cons}
use Rattle.cmm_tree.specs.Tree.{FileTree}
use Rattle.image_form.specs.Image.{EachNext, IsEntry, IsNextEntry}
use Rattle.rv_layout_rules.proofs.Rules.{all_append}
use Rattle.rv_layout_rules.specs.Conditions.{IsDescriptor, AreDescriptors, AreNamesPresent, piece_weight, weight_of}
use Rattle.lin_ir.specs.declared.descr.Descr.{Descr}
use Rattle.rows_code.specs.Points.{AreSlots, no_slot, one_slot, IsShortDescriptor, ArePointPieces, no_point, one_point, CanStand}
use Rattle.rv_isa.specs.Encoding.{InstrFits}
use Rattle.rv_isa.specs.declared.instr.Instr.{Instr}
use Rattle.rv_pieces.specs.Named.{PieceFits, has_words, label_named, symbol_named, external_named}
use Rattle.rv_pieces.specs.declared.piece.Piece.{Piece}
use Rattle.rv_pieces.specs.declared.piece.Piece.TheVariants.{Known, Label, Branch, Jump, Row, LabelAddress, Call, TailCall, SymbolAddress, ExternalNumber, Descriptor}
use Rattle.rv_pieces.specs.declared.piece.Pieces.{Pieces}

all_weaken : {A : Type 0} (P Q : A → Type 0) → ((x : A) → P x → Q x) → (xs : List A) → AllByRecursion P xs → AllByRecursion Q xs
all_weaken P Q f [] all = tt
all_weaken P Q f (x ∷ xs) all = (f x all.0, all_weaken P Q f xs all.1)

-- ---- slots

next_append : {A : Type 0} (R : A → A → Type 0) (xs : List A) (y : A) → EachNext R xs → AllByRecursion (λ x. R x y) xs → EachNext R (xs ++ y ∷ [])
next_append R [] y each all = (tt, tt)
next_append R (x ∷ []) y each all = (all.0, (tt, tt))
next_append R (x ∷ z ∷ xs) y each all = (each.0, next_append R (z ∷ xs) y each.1 all.1)

slots_long : (n : ℕ) (xs : List ℕ) → AreSlots n xs → length xs ≡ n
slots_long _ _ no_slot = refl
slots_long _ _ (one_slot n xs are) = omega (arith, length-append xs (8 * n ∷ []), slots_long n xs are)

IsBelow : ℕ → ℕ → Type 0
IsBelow m y = (y % 8 ≡ 0) × (y < 8 * m)

slots_below : (n : ℕ) (xs : List ℕ) → AreSlots n xs → AllByRecursion (IsBelow n) xs
unfolding IsBelow
slots_below _ _ no_slot = tt
slots_below _ _ (one_slot n xs are) =
    all_append (IsBelow (suc n)) xs (8 * n ∷ [])
    (all_weaken (IsBelow n) (IsBelow (suc n)) (λ y below. (below.0, omega (arith, below.1))) xs (slots_below n xs are))
    ((omega arith, omega arith), tt)

slots_rise : (n : ℕ) (xs : List ℕ) → AreSlots n xs → EachNext IsNextEntry xs
unfolding IsBelow
slots_rise _ _ no_slot = tt
slots_rise _ _ (one_slot n xs are) =
    next_append IsNextEntry xs (8 * n) (slots_rise n xs are)
    (all_weaken (IsBelow n) (λ y. IsNextEntry y (8 * n)) (λ y below. inl (omega (arith, below.0), below.1)) xs (slots_below n xs are))

pub slots_describe : (d : Descr) (n : ℕ) → AreSlots n d.entries → n ≤ 2 ^ 20 → d.size ≡ 16 * (n / 2 + 1) → IsShortDescriptor d
unfolding IsBelow
slots_describe d n are few size =
    let long = slots_long n d.entries are in
    record {
      keeps = record {
        size_aligned = omega (arith, size);
        nonempty = omega (arith, size);
        size_fits = omega (arith, size, few);
        few = omega (arith, long, few);
        entries = all_weaken (IsBelow n) (IsEntry d.size) (λ y below. inr (below.0, omega (arith, below.1, size))) d.entries (slots_below n d.entries are);
        in_order = slots_rise n d.entries are;
      };
      few = omega (arith, long, few);
    }

-- ---- points

begins : (n : ℕ) (code : List Piece) → ArePointPieces n code → (j : Instr) × ((tail : List Piece) × (code ≡ Known j ∷ tail))
begins _ _ (no_point j fits) = (j, ([], refl))
begins _ _ (one_point n code i d are fits short) =
    let first = begins n code are in
    (first.0, ((first.1.0 ++ Known i ∷ []) ++ Descriptor d ∷ [], ap (λ (c : List Piece). (c ++ Known i ∷ []) ++ Descriptor d ∷ []) first.1.1))

one_word : (j : Instr) (ps : List Piece) → 0 < count_by has_words (Known j ∷ ps)
one_word j ps =
    let step : count_by has_words (Known j ∷ ps) ≡ 1 + count_by has_words ps =
    sum_by-cons (λ (q : Piece). cond (has_words q) 1 0) (Known j) ps in
    omega (arith, step)

some_words : (n : ℕ) (code : List Piece) → ArePointPieces n code → 0 < count_by has_words code
some_words n code are =
    let first = begins n code are in
    subst (λ (c : List Piece). 0 < count_by has_words c) (sym first.1.1) (one_word first.0 first.1.0)

-- what every piece keeps
every : (P : Piece → Type 0) → ((j : Instr) → InstrFits j → P (Known j)) → ((d : Descr) → P (Descriptor d)) →
    (n : ℕ) (code : List Piece) → ArePointPieces n code → AllByRecursion P code
every P known mark _ _ (no_point j fits) = (known j fits, tt)
every P known mark _ _ (one_point n code j d are fits short) =
    all_append P (code ++ Known j ∷ []) (Descriptor d ∷ [])
    (all_append P code (Known j ∷ []) (every P known mark n code are) (known j fits, tt))
    (mark d, tt)

behind : (b : Bool) (code : List Piece) (j : Instr) (d : Descr) → AreDescriptors b code → IsDescriptor d →
    AreDescriptors b ((code ++ Known j ∷ []) ++ Descriptor d ∷ [])
behind b [] j d are keeps = (refl, keeps, tt)
behind b (Descriptor e ∷ ps) j d are keeps = (are.0, are.1, behind false ps j d are.2 keeps)
behind b (Label l ∷ ps) j d are keeps = behind b ps j d are keeps
behind b (Known i ∷ ps) j d are keeps = behind true ps j d are keeps
behind b (Branch c x y l ∷ ps) j d are keeps = behind true ps j d are keeps
behind b (Jump l ∷ ps) j d are keeps = behind true ps j d are keeps
behind b (Row l ∷ ps) j d are keeps = behind true ps j d are keeps
behind b (LabelAddress r l ∷ ps) j d are keeps = behind true ps j d are keeps
behind b (Call name ∷ ps) j d are keeps = behind true ps j d are keeps
behind b (TailCall name ∷ ps) j d are keeps = behind true ps j d are keeps
behind b (SymbolAddress r name ∷ ps) j d are keeps = behind true ps j d are keeps
behind b (ExternalNumber r row ∷ ps) j d are keeps = behind true ps j d are keeps

descriptors_keep : (n : ℕ) (code : List Piece) → ArePointPieces n code → AreDescriptors false code
descriptors_keep _ _ (no_point j fits) = tt
descriptors_keep _ _ (one_point n code j d are fits short) = behind false code j d (descriptors_keep n code are) short.keeps

few_pieces : (n : ℕ) (code : List Piece) → ArePointPieces n code → weight_of code ≤ 1 + n * (2 + 2 ^ 20)
few_pieces _ _ (no_point j fits) = omega arith
few_pieces _ _ (one_point n code j d are fits short) =
    let known = sum_by-append piece_weight code (Known j ∷ []) in
    let mark = sum_by-append piece_weight (code ++ Known j ∷ []) (Descriptor d ∷ []) in
    let before = few_pieces n code are in
    omega (arith, known, mark, before, short.few)

IsBare : Piece → Type 0
IsBare p = (label_named p ≡ None) × (symbol_named p ≡ None) × (external_named p ≡ None)

bare_is_named : (file : FileTree) (code : List Piece) (p : Piece) → IsBare p → AreNamesPresent file code p
unfolding IsBare
bare_is_named file code p bare = record {
  label = λ l e. let not = bare.0 in absurd (cc);
  symbol = λ name e. let not = bare.1 in absurd (cc);
  external = λ row e. let not = bare.2 in absurd (cc);
}

pub points_stand : (p : Pieces) (n : ℕ) → ArePointPieces n p.code → n ≤ 2 ^ 20 → p.frame ≡ 16 → CanStand p
unfolding IsBare
points_stand p n are few frame = record {
  laid = λ file. record {
    nonempty = some_words n p.code are;
    fits = every PieceFits (λ j fits. fits) (λ d. tt) n p.code are;
    named = all_weaken IsBare (AreNamesPresent file p.code) (bare_is_named file p.code) p.code (every IsBare (λ j fits. (refl, refl, refl)) (λ d. (refl, refl, refl)) n p.code are);
    frame = omega (arith, frame);
    frame_fits = omega (arith, frame);
    descriptors = descriptors_keep n p.code are;
  };
  few = let light = few_pieces n p.code are in omega (arith, light, few);
}
