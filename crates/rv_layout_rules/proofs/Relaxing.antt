-- Making forms longer ends in the least forms in which all labels are reached.
use Rattle.std.proofs.Common.{◌≡◌, ◌⊎◌, ℕ, suc, ◌+◌, ◌*◌, ◌<◌, ◌≤◌, Bool, true, false, cond, leb-true, ltb-true, ltb-false, le-leb, List, [], ◌∷◌, ◌++◌, length, Option, Some, None, refl, inl, inr, lt-ltb, arith}
use Rattle.std.specs.Prelude.{nat_lt, nat_le}
use Rattle.std.proofs.lemmas.Option.{same_Some}
use Rattle.std.proofs.lemmas.Bool.{and_parts, and_from}
use Rattle.rv_layout_rules.specs.declared.form.Form.{Form}
use Rattle.rv_layout_rules.specs.declared.form.Form.TheVariants.{Near, Middle, Far}
use Rattle.rv_layout_rules.specs.Forms.{branch_words, jump_words, words_of_call, piece_words, is_label_piece, label_from, place_or_entry, label_word_offset, branch_reaches, jal_reaches, branch_form, jump_form, none_far, needed_form, form_rank, SufficeFrom, Suffice, ReachFrom, Reach, NoLonger, AreForms, AllNear, longer, grown_from, ranks}
use Rattle.rv_pieces.specs.declared.piece.Piece.{Piece}
use Rattle.rv_pieces.specs.declared.piece.Piece.TheVariants.{Known, Label, Branch, Jump, Row, LabelAddress, Call, TailCall, SymbolAddress, ExternalNumber, Descriptor}

-- ---- a shorter form has no more words

branch_less : (f g : Form) → form_rank f ≤ form_rank g → branch_words f ≤ branch_words g
branch_less Near Near h = omega arith
branch_less Near Middle h = omega arith
branch_less Near Far h = omega arith
branch_less Middle Near h = absurd (omega (arith, h))
branch_less Middle Middle h = omega arith
branch_less Middle Far h = omega arith
branch_less Far Near h = absurd (omega (arith, h))
branch_less Far Middle h = absurd (omega (arith, h))
branch_less Far Far h = omega arith

jump_less : (f g : Form) → form_rank f ≤ form_rank g → jump_words f ≤ jump_words g
jump_less Near Near h = omega arith
jump_less Near Middle h = omega arith
jump_less Near Far h = omega arith
jump_less Middle Near h = absurd (omega (arith, h))
jump_less Middle Middle h = omega arith
jump_less Middle Far h = omega arith
jump_less Far Near h = absurd (omega (arith, h))
jump_less Far Middle h = absurd (omega (arith, h))
jump_less Far Far h = omega arith

call_less : (f g : Form) → form_rank f ≤ form_rank g → words_of_call f ≤ words_of_call g
call_less Near Near h = omega arith
call_less Near Middle h = omega arith
call_less Near Far h = omega arith
call_less Middle Near h = absurd (omega (arith, h))
call_less Middle Middle h = omega arith
call_less Middle Far h = omega arith
call_less Far Near h = absurd (omega (arith, h))
call_less Far Middle h = absurd (omega (arith, h))
call_less Far Far h = omega arith

pub words_less : (p : Piece) (f g : Form) → form_rank f ≤ form_rank g → piece_words p f ≤ piece_words p g
words_less (Known i) f g h = omega arith
words_less (Label l) f g h = omega arith
words_less (Branch c a b l) f g h = branch_less f g h
words_less (Jump l) f g h = jump_less f g h
words_less (Row l) f g h = omega arith
words_less (LabelAddress r l) f g h = omega arith
words_less (Call name) f g h = call_less f g h
words_less (TailCall name) f g h = call_less f g h
words_less (SymbolAddress r name) f g h = omega arith
words_less (ExternalNumber r row) f g h = omega arith
words_less (Descriptor d) f g h = omega arith

-- ---- nearer places are reached by no longer forms

-- b lies on the same side of a as b' of a', and no farther
pub record Nearer (a b a' b' : ℕ) : Type 0 where
  pub either :
      ((a ≤ b) × (a' ≤ b') × (b + a' ≤ b' + a)) ⊎ ((b ≤ a) × (b' ≤ a') × (a + b' ≤ a' + b))

pub jal_within : (a b : ℕ) → jal_reaches a b ≡ true → (b < a + 262144) × (a ≤ b + 262144)
jal_within a b e =
    let both = and_parts (nat_lt b (a + 262144)) (nat_le a (b + 262144)) e in
    (ltb-true b (a + 262144) both.0, leb-true a (b + 262144) both.1)

jal_does : (a b : ℕ) → b < a + 262144 → a ≤ b + 262144 → jal_reaches a b ≡ true
jal_does a b h k =
    and_from (nat_lt b (a + 262144)) (nat_le a (b + 262144)) (lt-ltb b (a + 262144) h) (le-leb a (b + 262144) k)

pub branch_within : (a b : ℕ) → branch_reaches a b ≡ true → (b < a + 1024) × (a ≤ b + 1024)
branch_within a b e =
    let both = and_parts (nat_lt b (a + 1024)) (nat_le a (b + 1024)) e in
    (ltb-true b (a + 1024) both.0, leb-true a (b + 1024) both.1)

branch_does : (a b : ℕ) → b < a + 1024 → a ≤ b + 1024 → branch_reaches a b ≡ true
branch_does a b h k =
    and_from (nat_lt b (a + 1024)) (nat_le a (b + 1024)) (lt-ltb b (a + 1024) h) (le-leb a (b + 1024) k)

pub rank_most : (f : Form) → form_rank f ≤ 2
rank_most Near = omega arith
rank_most Middle = omega arith
rank_most Far = omega arith

closer : {a b a' b' : ℕ} (limit : ℕ) → Nearer a b a' b' → (b' < a' + suc limit) × (a' ≤ b' + suc limit) → (b < a + suc limit) × (a ≤ b + suc limit)
closer {a = a} {b = b} {a' = a'} {b' = b'} limit near reach = elim near.either [
  | inl h ↦ (omega (arith, h.0, h.1, h.2, reach.0, reach.1), omega (arith, h.0, h.1, h.2, reach.0, reach.1))
  | inr h ↦ (omega (arith, h.0, h.1, h.2, reach.0, reach.1), omega (arith, h.0, h.1, h.2, reach.0, reach.1))
]

branch_nearer : (a b a' b' : ℕ) → Nearer a b a' b' → branch_reaches a' b' ≡ true → branch_reaches a b ≡ true
branch_nearer a b a' b' near e =
    let r = closer 1023 near (branch_within a' b' e) in
    branch_does a b r.0 r.1

jal_nearer : (a b a' b' : ℕ) → Nearer a b a' b' → jal_reaches a' b' ≡ true → jal_reaches a b ≡ true
jal_nearer a b a' b' near e =
    let r = closer 262143 near (jal_within a' b' e) in
    jal_does a b r.0 r.1

next_nearer : (a b a' b' : ℕ) → Nearer a b a' b' → jal_reaches (a' + 1) b' ≡ true → jal_reaches (a + 1) b ≡ true
next_nearer a b a' b' near e = elim near.either [
  | inl h ↦ jal_does (a + 1) b (omega (arith, h.0, h.1, h.2, r.0, r.1)) (omega (arith, h.0, h.1, h.2, r.0, r.1))
  | inr h ↦ jal_does (a + 1) b (omega (arith, h.0, h.1, h.2, r.0, r.1)) (omega (arith, h.0, h.1, h.2, r.0, r.1))
]
  where
    r : (b' < a' + 1 + 262144) × (a' + 1 ≤ b' + 262144)
    r = jal_within (a' + 1) b' e

-- a branch's form by its two tests, and a jump's by its one
form_by : Bool → Bool → Form
form_by near middle = cond near Near (cond middle Middle Far)

form_by_less : (n m n' m' : Bool) → (n' ≡ true → n ≡ true) → (m' ≡ true → m ≡ true) → form_rank (form_by n m) ≤ form_rank (form_by n' m')
unfolding form_by
form_by_less true m n' m' near middle = omega arith
form_by_less false m true m' near middle = let e = near refl in cc
form_by_less false true false m' near middle = two m'
  where
    two : (m' : Bool) → 1 ≤ form_rank (cond m' Middle Far)
    two true = omega arith
    two false = omega arith
form_by_less false false false true near middle = let e = middle refl in cc
form_by_less false false false false near middle = omega arith

jump_by_less : (n n' : Bool) → (n' ≡ true → n ≡ true) → form_rank (cond n Near Far) ≤ form_rank (cond n' Near Far)
jump_by_less true n' near = omega arith
jump_by_less false true near = let e = near refl in cc
jump_by_less false false near = omega arith

branch_form_less : (a b a' b' : ℕ) → Nearer a b a' b' → form_rank (branch_form a b) ≤ form_rank (branch_form a' b')
unfolding form_by
branch_form_less a b a' b' near =
    form_by_less (branch_reaches a b) (jal_reaches (a + 1) b) (branch_reaches a' b') (jal_reaches (a' + 1) b')
    (branch_nearer a b a' b' near) (next_nearer a b a' b' near)

jump_form_less : (a b a' b' : ℕ) → Nearer a b a' b' → form_rank (jump_form a b) ≤ form_rank (jump_form a' b')
jump_form_less a b a' b' near = jump_by_less (jal_reaches a b) (jal_reaches a' b') (jal_nearer a b a' b' near)

needed_less : (far : List ℕ → Bool) (places places' : ℕ → ℕ) (at at' : ℕ) (p : Piece) → ((l : ℕ) → Nearer at (places l) at' (places' l)) → form_rank (needed_form far places at p) ≤ form_rank (needed_form far places' at' p)
needed_less far places places' at at' (Known i) near = omega arith
needed_less far places places' at at' (Label l) near = omega arith
needed_less far places places' at at' (Branch c a b l) near = branch_form_less at (places l) at' (places' l) (near l)
needed_less far places places' at at' (Jump l) near = jump_form_less at (places l) at' (places' l) (near l)
needed_less far places places' at at' (Row l) near = omega arith
needed_less far places places' at at' (LabelAddress r l) near = omega arith
needed_less far places places' at at' (Call name) near = omega arith
needed_less far places places' at at' (TailCall name) near = omega arith
needed_less far places places' at at' (SymbolAddress r name) near = omega arith
needed_less far places places' at at' (ExternalNumber r row) near = omega arith
needed_less far places places' at at' (Descriptor d) near = omega arith

-- ---- what suffices where some callees are far reaches all labels

reach_less : (far : List ℕ → Bool) (places : ℕ → ℕ) (at : ℕ) (p : Piece) → form_rank (needed_form none_far places at p) ≤ form_rank (needed_form far places at p)
reach_less far places at (Known i) = omega arith
reach_less far places at (Label l) = omega arith
reach_less far places at (Branch c a b l) = omega arith
reach_less far places at (Jump l) = omega arith
reach_less far places at (Row l) = omega arith
reach_less far places at (LabelAddress r l) = omega arith
reach_less far places at (Call name) = omega arith
reach_less far places at (TailCall name) = omega arith
reach_less far places at (SymbolAddress r name) = omega arith
reach_less far places at (ExternalNumber r row) = omega arith
reach_less far places at (Descriptor d) = omega arith

suffice_reach : (far : List ℕ → Bool) (places : ℕ → ℕ) (at : ℕ) (ps : List Piece) (fs : List Form) → SufficeFrom far places at ps fs → ReachFrom places at ps fs
suffice_reach far places at [] [] enough = tt
suffice_reach far places at [] (f ∷ fs) enough = absurd enough
suffice_reach far places at (p ∷ ps) [] enough = absurd enough
suffice_reach far places at (p ∷ ps) (f ∷ fs) enough =
    (omega (arith, reach_less far places at p, enough.0), suffice_reach far places (at + piece_words p f) ps fs enough.1)

pub forms_reach : (far : List ℕ → Bool) (ps : List Piece) (fs : List Form) → Suffice far ps fs → Reach ps fs
forms_reach far ps fs enough = suffice_reach far (label_word_offset ps fs) 0 ps fs enough

-- ---- where labels lie while both lists are walked

-- the places that a label has in two layouts, neither or both, the second one no nearer to the start
Ahead : (at at' : ℕ) → Option ℕ → Option ℕ → Type 0
Ahead at at' None None = Unit {0}
Ahead at at' None (Some b') = ⊥
Ahead at at' (Some b) None = ⊥
Ahead at at' (Some b) (Some b') = (at ≤ b) × (at' ≤ b') × (b + at' ≤ b' + at)

ahead_later : (at at' w w' : ℕ) (o o' : Option ℕ) → w ≤ w' → Ahead (at + w) (at' + w') o o' → Ahead at at' o o'
unfolding Ahead
ahead_later at at' w w' None None h a = tt
ahead_later at at' w w' None (Some b') h a = a
ahead_later at at' w w' (Some b) None h a = a
ahead_later at at' w w' (Some b) (Some b') h a =
    (omega (arith, a.0), omega (arith, a.1), omega (arith, h, a.2))

ahead_by : (t : Bool) (at at' : ℕ) (o o' : Option ℕ) → Ahead at at' o o' → Ahead at at' (cond t (Some at) o) (cond t (Some at') o')
unfolding Ahead
ahead_by true at at' o o' a = (omega arith, omega arith, omega arith)
ahead_by false at at' o o' a = a

ahead : (l at at' : ℕ) (ps : List Piece) (fs gs : List Form) → NoLonger fs gs → Ahead at at' (label_from l at ps fs) (label_from l at' ps gs)
unfolding Ahead
ahead l at at' [] fs gs h = tt
ahead l at at' (p ∷ ps) [] [] h = tt
ahead l at at' (p ∷ ps) [] (g ∷ gs) h = absurd h
ahead l at at' (p ∷ ps) (f ∷ fs) [] h = absurd h
ahead l at at' (p ∷ ps) (f ∷ fs) (g ∷ gs) h =
    let w = piece_words p f in
    let w' = piece_words p g in
    let later = ahead l (at + w) (at' + w') ps fs gs h.1 in
    ahead_by (is_label_piece l p) at at' (label_from l (at + w) ps fs) (label_from l (at' + w') ps gs)
    (ahead_later at at' w w' (label_from l (at + w) ps fs) (label_from l (at' + w') ps gs) (words_less p f g h.0) later)

-- A label is after, or still to come, in both.
pub record Passed (b b' at at' : ℕ) : Type 0 where
  pub first : b ≤ at
  pub second : b' ≤ at'
  pub nearer : at + b' ≤ at' + b

pub record Coming (l b b' at at' : ℕ) (ps : List Piece) (fs gs : List Form) : Type 0 where
  pub first : label_from l at ps fs ≡ Some b
  pub second : label_from l at' ps gs ≡ Some b'

Knows : (l b b' at at' : ℕ) → List Piece → List Form → List Form → Type 0
Knows l b b' at at' ps fs gs = Passed b b' at at' ⊎ Coming l b b' at at' ps fs gs

goes_past : (t : Bool) (l b b' at at' w w' : ℕ) (ps : List Piece) (fs gs : List Form) → w ≤ w' →
    cond t (Some at) (label_from l (at + w) ps fs) ≡ Some b →
    cond t (Some at') (label_from l (at' + w') ps gs) ≡ Some b' →
    Knows l b b' (at + w) (at' + w') ps fs gs
unfolding Knows
goes_past true l b b' at at' w w' ps fs gs h e e' =
    let same : at ≡ b = same_Some _ _ e in
    let same' : at' ≡ b' = same_Some _ _ e' in
    inl (record { first = omega (arith, same); second = omega (arith, same'); nearer = omega (arith, h, same, same') })
goes_past false l b b' at at' w w' ps fs gs h e e' = inr (record { first = e; second = e' })

next_knows : (l b b' at at' : ℕ) (p : Piece) (f g : Form) (ps : List Piece) (fs gs : List Form) → form_rank f ≤ form_rank g →
    Knows l b b' at at' (p ∷ ps) (f ∷ fs) (g ∷ gs) →
    Knows l b b' (at + piece_words p f) (at' + piece_words p g) ps fs gs
unfolding Knows
next_knows l b b' at at' p f g ps fs gs h (inl k) =
    let w = piece_words p f in
    let w' = piece_words p g in
    let less : w ≤ w' = words_less p f g h in
    inl (record { first = omega (arith, k.first); second = omega (arith, k.second); nearer = omega (arith, less, k.nearer) })
next_knows l b b' at at' p f g ps fs gs h (inr k) =
    goes_past (is_label_piece l p) l b b' at at' (piece_words p f) (piece_words p g) ps fs gs (words_less p f g h) k.first k.second

coming_nearer : (at at' b b' : ℕ) (o o' : Option ℕ) → o ≡ Some b → o' ≡ Some b' → Ahead at at' o o' → Nearer at b at' b'
unfolding Ahead
coming_nearer at at' b b' None o' e e' a = cc
coming_nearer at at' b b' (Some c) None e e' a = cc
coming_nearer at at' b b' (Some c) (Some c') e e' a =
    let same : c ≡ b = same_Some _ _ e in
    let same' : c' ≡ b' = same_Some _ _ e' in
    record { either = inl (omega (arith, same, a.0), omega (arith, same', a.1), omega (arith, same, same', a.2)) }

nearer : (l b b' at at' : ℕ) (ps : List Piece) (fs gs : List Form) → NoLonger fs gs → Knows l b b' at at' ps fs gs → Nearer at b at' b'
unfolding Knows
nearer l b b' at at' ps fs gs h (inl k) = record { either = inr (k.first, k.second, k.nearer) }
nearer l b b' at at' ps fs gs h (inr k) =
    coming_nearer at at' b b' (label_from l at ps fs) (label_from l at' ps gs) k.first k.second (ahead l at at' ps fs gs h)

-- ---- a round

longer_less : (f n g : Form) → form_rank f ≤ form_rank g → form_rank n ≤ form_rank g → form_rank (longer f n) ≤ form_rank g
longer_less f n g h k = by (nat_lt (form_rank f) (form_rank n))
  where
    by : (t : Bool) → form_rank (cond t n f) ≤ form_rank g
    by true = k
    by false = h

grown_less : (far : List ℕ → Bool) (places places' : ℕ → ℕ) (at at' : ℕ) (ps : List Piece) (fs gs : List Form) →
    ((l : ℕ) → Knows l (places l) (places' l) at at' ps fs gs) →
    NoLonger fs gs → SufficeFrom far places' at' ps gs → NoLonger (grown_from far places at ps fs) gs
grown_less far places places' at at' [] [] [] knows less reach = tt
grown_less far places places' at at' [] (f ∷ fs) [] knows less reach = absurd less
grown_less far places places' at at' [] (f ∷ fs) (g ∷ gs) knows less reach = absurd reach
grown_less far places places' at at' [] [] (g ∷ gs) knows less reach = absurd reach
grown_less far places places' at at' (p ∷ ps) [] gs knows less reach = less
grown_less far places places' at at' (p ∷ ps) (f ∷ fs) [] knows less reach = absurd reach
grown_less far places places' at at' (p ∷ ps) (f ∷ fs) (g ∷ gs) knows less reach =
    let near : (l : ℕ) → Nearer at (places l) at' (places' l) = λ l. nearer l (places l) (places' l) at at' (p ∷ ps) (f ∷ fs) (g ∷ gs) less (knows l) in
    let need : form_rank (needed_form far places at p) ≤ form_rank g = omega (arith, needed_less far places places' at at' p near, reach.0) in (
      longer_less f (needed_form far places at p) g less.0 need,
      grown_less far places places' (at + piece_words p f) (at' + piece_words p g) ps fs gs
          (λ l. next_knows l (places l) (places' l) at at' p f g ps fs gs less.0 (knows l)) less.1 reach.1,
    )

first_by : (l : ℕ) (ps : List Piece) (fs gs : List Form) (o o' : Option ℕ) → label_from l 0 ps fs ≡ o → label_from l 0 ps gs ≡ o' → Ahead 0 0 o o' →
    Knows l (place_or_entry o) (place_or_entry o') 0 0 ps fs gs
unfolding Ahead Knows
first_by l ps fs gs None None e e' a = inl (record { first = omega arith; second = omega arith; nearer = omega arith })
first_by l ps fs gs None (Some b') e e' a = absurd a
first_by l ps fs gs (Some b) None e e' a = absurd a
first_by l ps fs gs (Some b) (Some b') e e' a = inr (record { first = e; second = e' })

-- A round keeps below all forms in which each label is reached.
pub round_least : (far : List ℕ → Bool) (ps : List Piece) (fs gs : List Form) → NoLonger fs gs → Suffice far ps gs → NoLonger (grown_from far (label_word_offset ps fs) 0 ps fs) gs
round_least far ps fs gs less reach =
    grown_less far (label_word_offset ps fs) (label_word_offset ps gs) 0 0 ps fs gs
    (λ l. first_by l ps fs gs (label_from l 0 ps fs) (label_from l 0 ps gs) refl refl (ahead l 0 0 ps fs gs less)) less reach

-- ---- the first forms

no_longer_near : (far : List ℕ → Bool) (places : ℕ → ℕ) (at : ℕ) (ps : List Piece) (fs gs : List Form) → length fs ≡ length ps → AllNear fs → SufficeFrom far places at ps gs → NoLonger fs gs
no_longer_near far places at [] [] [] e near reach = tt
no_longer_near far places at [] [] (g ∷ gs) e near reach = reach
no_longer_near far places at [] (f ∷ fs) gs e near reach = absurd (omega (arith, e))
no_longer_near far places at (p ∷ ps) fs [] e near reach = absurd reach
no_longer_near far places at (p ∷ ps) [] (g ∷ gs) e near reach = absurd (omega (arith, e))
no_longer_near far places at (p ∷ ps) (f ∷ fs) (g ∷ gs) e near reach =
    (rw near.0 (omega arith), no_longer_near far places (at + piece_words p g) ps fs gs (omega (arith, e)) near.1 reach.1)

-- The shortest forms are below all.
pub near_least : (far : List ℕ → Bool) (ps : List Piece) (fs : List Form) → length fs ≡ length ps → AllNear fs → (gs : List Form) → Suffice far ps gs → NoLonger fs gs
near_least far ps fs e near gs reach = no_longer_near far (label_word_offset ps gs) 0 ps fs gs e near reach

-- ---- a round that changes nothing

pub ranks_append : (fs gs : List Form) → ranks (fs ++ gs) ≡ ranks fs + ranks gs
ranks_append [] gs = omega arith
ranks_append (f ∷ fs) gs = let e = ranks_append fs gs in omega (arith, e)

pub ranks_most : (fs : List Form) → ranks fs ≤ 2 * length fs
ranks_most [] = omega arith
ranks_most (f ∷ fs) = let h = ranks_most fs in let k = rank_most f in omega (arith, h, k)

longer_more : (f n : Form) → form_rank f ≤ form_rank (longer f n)
longer_more f n = by (nat_lt (form_rank f) (form_rank n)) refl
  where
    by : (t : Bool) → nat_lt (form_rank f) (form_rank n) ≡ t → form_rank f ≤ form_rank (cond t n f)
    by true e = let h = ltb-true (form_rank f) (form_rank n) e in omega (arith, h)
    by false e = omega arith

longer_same : (f n : Form) → form_rank (longer f n) ≤ form_rank f → (longer f n ≡ f) × (form_rank n ≤ form_rank f)
longer_same f n h = by (nat_lt (form_rank f) (form_rank n)) refl h
  where
    by : (t : Bool) → nat_lt (form_rank f) (form_rank n) ≡ t → form_rank (cond t n f) ≤ form_rank f → (cond t n f ≡ f) × (form_rank n ≤ form_rank f)
    by true e h = let k = ltb-true (form_rank f) (form_rank n) e in absurd (omega (arith, h, k))
    by false e h = (refl, ltb-false (form_rank f) (form_rank n) e)

pub grown_length : (far : List ℕ → Bool) (places : ℕ → ℕ) (at : ℕ) (ps : List Piece) (fs : List Form) → length fs ≡ length ps → length (grown_from far places at ps fs) ≡ length ps
grown_length far places at [] fs e = refl
grown_length far places at (p ∷ ps) [] e = absurd (omega (arith, e))
grown_length far places at (p ∷ ps) (f ∷ fs) e =
    let rest = grown_length far places (at + piece_words p f) ps fs (omega (arith, e)) in
    omega (arith, rest)

pub grown_more : (far : List ℕ → Bool) (places : ℕ → ℕ) (at : ℕ) (ps : List Piece) (fs : List Form) → length fs ≡ length ps → ranks fs ≤ ranks (grown_from far places at ps fs)
grown_more far places at [] [] e = omega arith
grown_more far places at [] (f ∷ fs) e = absurd (omega (arith, e))
grown_more far places at (p ∷ ps) [] e = absurd (omega (arith, e))
grown_more far places at (p ∷ ps) (f ∷ fs) e =
    let rest = grown_more far places (at + piece_words p f) ps fs (omega (arith, e)) in
    let own = longer_more f (needed_form far places at p) in
    omega (arith, rest, own)

pub settled : (far : List ℕ → Bool) (places : ℕ → ℕ) (at : ℕ) (ps : List Piece) (fs : List Form) → length fs ≡ length ps → ranks (grown_from far places at ps fs) ≤ ranks fs → SufficeFrom far places at ps fs
settled far places at [] [] e h = tt
settled far places at [] (f ∷ fs) e h = absurd (omega (arith, e))
settled far places at (p ∷ ps) [] e h = absurd (omega (arith, e))
settled far places at (p ∷ ps) (f ∷ fs) e h =
    let more = grown_more far places (at + piece_words p f) ps fs (omega (arith, e)) in
    let own = longer_more f (needed_form far places at p) in (
      (longer_same f (needed_form far places at p) (omega (arith, h, more))).1,
      settled far places (at + piece_words p f) ps fs (omega (arith, e)) (omega (arith, h, own)),
    )

-- Forms that are below all in which each label is reached, and that a round leaves as they are, are
-- those of the function.
pub are_forms : (far : List ℕ → Bool) (ps : List Piece) (fs : List Form) → length fs ≡ length ps → ((gs : List Form) → Suffice far ps gs → NoLonger fs gs) →
    ranks (grown_from far (label_word_offset ps fs) 0 ps fs) ≤ ranks fs → AreForms far ps fs
are_forms far ps fs e least h = record { suffice = settled far (label_word_offset ps fs) 0 ps fs e h; least = least }

-- ---- there is one such list

same_rank : (f g : Form) → form_rank f ≤ form_rank g → form_rank g ≤ form_rank f → f ≡ g
same_rank Near Near h k = refl
same_rank Near Middle h k = absurd (omega (arith, k))
same_rank Near Far h k = absurd (omega (arith, k))
same_rank Middle Near h k = absurd (omega (arith, h))
same_rank Middle Middle h k = refl
same_rank Middle Far h k = absurd (omega (arith, k))
same_rank Far Near h k = absurd (omega (arith, h))
same_rank Far Middle h k = absurd (omega (arith, h))
same_rank Far Far h k = refl

no_longer_both : (fs gs : List Form) → NoLonger fs gs → NoLonger gs fs → fs ≡ gs
no_longer_both [] [] h k = refl
no_longer_both [] (g ∷ gs) h k = absurd h
no_longer_both (f ∷ fs) [] h k = absurd h
no_longer_both (f ∷ fs) (g ∷ gs) h k =
    let one = same_rank f g h.0 k.0 in
    let rest = no_longer_both fs gs h.1 k.1 in
    cc

pub forms_once : (far : List ℕ → Bool) (ps : List Piece) (fs gs : List Form) → AreForms far ps fs → AreForms far ps gs → fs ≡ gs
forms_once far ps fs gs a b = no_longer_both fs gs (a.least gs b.suffice) (b.least fs a.suffice)
