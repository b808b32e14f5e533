-- Lists and their parts.
use Rattle.std.proofs.Common.{◌≡◌, ◌∙◌, ℕ, zero, suc, ◌<◌, ◌≤◌, ◌+◌, List, [], ◌∷◌, ◌++◌, length, map, take, drop, get_or, slice_set, Some, None, slice_get, refl, sym, ap, subst, arith}
use Rattle.std.proofs.lemmas.List.{length-append}
use Rattle.bs_words.proofs.Lists.{drop_none, head_same, tail_same}

pub some_same : {A : Type 0} {x y : A} → Some x ≡ Some y → x ≡ y
some_same e = cc

pub none_some : {A : Type 0} {x : A} → None ≡ Some x → ⊥
none_some e = cc

pub some_none : {A : Type 0} {x : A} → Some x ≡ None → ⊥
some_none e = cc

pub at_seam : {A : Type 0} (xs : List A) (y : A) (ys : List A) → slice_get (xs ++ y ∷ ys) (length xs) ≡ Some y
at_seam [] y ys = refl
at_seam (x ∷ xs) y ys = at_seam xs y ys

-- two places of one list, of which the second is not before the first
pub data Places {A : Type 0} (xs : List A) (x : A) (past : List A) (ys : List A) (y : A) (rest : List A) : Type 0 where
  one_place : xs ≡ ys → x ≡ y → past ≡ rest → Places xs x past ys y rest
  further_on : (mid : List A) → ys ≡ xs ++ x ∷ mid → past ≡ mid ++ y ∷ rest → Places xs x past ys y rest

places_more : {A : Type 0} {z : A} {xs : List A} {x : A} {past ys : List A} {y : A} {rest : List A} →
    Places xs x past ys y rest → Places (z ∷ xs) x past (z ∷ ys) y rest
places_more {z = z} (one_place e h g) = one_place (ap (λ xs. z ∷ xs) e) h g
places_more {z = z} (further_on mid e h) = further_on mid (ap (λ xs. z ∷ xs) e) h

pub places : {A : Type 0} (xs : List A) (x : A) (past ys : List A) (y : A) (rest : List A) → xs ++ x ∷ past ≡ ys ++ y ∷ rest →
    length xs ≤ length ys → Places xs x past ys y rest
places [] x past [] y rest e le = one_place refl (head_same e) (tail_same e)
places [] x past (z ∷ ys) y rest e le =
    further_on ys (ap (λ v. v ∷ ys) (sym (head_same e))) (tail_same e)
places (v ∷ xs) x past [] y rest e le = absurd (omega (arith, le))
places (v ∷ xs) x past (z ∷ ys) y rest e le =
    let less : length xs ≤ length ys = omega (arith, le) in
    subst (λ u. Places (v ∷ xs) x past (u ∷ ys) y rest) (head_same e)
    (places_more (places xs x past ys y rest (tail_same e) less))

-- a place is not after the last
pub places_end : {A : Type 0} (xs : List A) (x : A) (past ys : List A) (y : A) → xs ++ x ∷ past ≡ ys ++ y ∷ [] →
    Places xs x past ys y []
places_end xs x past ys y e =
    let a : length (xs ++ x ∷ past) ≡ length xs + length (x ∷ past) = length-append xs (x ∷ past) in
    let b : length (ys ++ y ∷ []) ≡ length ys + 1 = length-append ys (y ∷ []) in
    let c : length (xs ++ x ∷ past) ≡ length (ys ++ y ∷ []) = ap length e in
    let le : length xs ≤ length ys = omega (arith, a, b, c) in
    places xs x past ys y [] e le

take_none : {A : Type 0} (xs : List A) → take 0 xs ≡ []
take_none [] = refl
take_none (x ∷ xs) = refl

-- one item more of a list is mapped
pub mapped_more : {A : Type 0} (f : A → A) (xs : List A) (i : ℕ) (y d : A) → i < length xs → y ≡ f (get_or xs i d) →
    take (i + 1) (slice_set xs i y) ++ map f (drop (i + 1) (slice_set xs i y)) ≡ take i xs ++ map f (drop i xs)
mapped_more {A = A} f xs i y d lt e = ap (λ k. take k (slice_set xs i y) ++ map f (drop k (slice_set xs i y))) (next i) ∙ by xs i lt e
  where
    next : (k : ℕ) → k + 1 ≡ suc k
    next k = omega arith

    by : (xs : List A) (i : ℕ) → i < length xs → y ≡ f (get_or xs i d) →
        take (suc i) (slice_set xs i y) ++ map f (drop (suc i) (slice_set xs i y)) ≡ take i xs ++ map f (drop i xs)
    by [] i lt e = absurd (omega (arith, lt))
    by (x ∷ xs) zero lt e =
        ap (λ zs. y ∷ (zs ++ map f (drop 0 xs))) (take_none xs) ∙ ap (λ zs. y ∷ map f zs) (drop_none xs) ∙ ap (λ z. z ∷ map f xs) e
    by (x ∷ xs) (suc i) lt e = let less : i < length xs = omega (arith, lt) in ap (λ zs. x ∷ zs) (by xs i less e)
