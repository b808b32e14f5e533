-- The rows of external calls of several lists, each once in the order of their first use, are those of the
-- lists that have each of their own once.
use Rattle.std.proofs.Common.{◌≡◌, ◌⊎◌, inl, inr, Bool, true, false, cond, ◌&&◌, ◌||◌, ◌==◌, List, [], ◌∷◌, ◌++◌, map, bytes_eq, refl, sym, ap, ◌∙◌}
use Rattle.std.proofs.lemmas.Bool.{eqb-true, and_parts}
use Rattle.std.proofs.lemmas.Slice.Eq.{bytes_eq-Decides}
use Rattle.bs_words.specs.External.{External}
use Rattle.image_form.specs.Image.{comp_byte, ret_byte}
use Rattle.rv_layout_rules.specs.Externals.{same_row, is_among_externals, firsts_behind}

-- one list after another
pub firsts_both : (before xs ys : List External) → firsts_behind before (xs ++ ys) ≡ firsts_behind (firsts_behind before xs) ys
firsts_both before [] ys = refl
firsts_both before (x ∷ xs) ys = firsts_both (cond (is_among_externals before x) before (before ++ x ∷ [])) xs ys

either : (a b : Bool) → (a || b) ≡ true → (a ≡ true) ⊎ (b ≡ true)
either true b e = inl refl
either false b e = inr e

or_true : (a : Bool) → (a || true) ≡ true
or_true true = refl
or_true false = refl

among_longer : (xs ys : List External) (e : External) → is_among_externals xs e ≡ true → is_among_externals (xs ++ ys) e ≡ true
among_longer [] ys e h = absurd (let z : false ≡ true = h in cc)
among_longer (x ∷ xs) ys e h = by (same_row x e) h (λ k. among_longer xs ys e k)
  where
    by : (b : Bool) → (b || is_among_externals xs e) ≡ true → (is_among_externals xs e ≡ true → is_among_externals (xs ++ ys) e ≡ true) → (b || is_among_externals (xs ++ ys) e) ≡ true
    by true h later = refl
    by false h later = later h

among_last : (xs : List External) (x e : External) → same_row x e ≡ true → is_among_externals (xs ++ x ∷ []) e ≡ true
among_last [] x e h = ap (λ b. b || false) h
among_last (y ∷ xs) x e h = ap (λ b. same_row y e || b) (among_last xs x e h) ∙ or_true (same_row y e)

-- of rows that are the same one is among others where the other is
row_alike : (y x e : External) → same_row x e ≡ true → same_row y x ≡ same_row y e
row_alike y x e h =
    let names = bytes_eq x.name e.name in
    let params = bytes_eq (map comp_byte x.params) (map comp_byte e.params) in
    let result = ret_byte x.result == ret_byte e.result in
    let first = (and_parts (names && params) result h).0 in
    let name : x.name ≡ e.name = (bytes_eq-Decides x.name e.name).0 (and_parts names params first).0 in
    let comps : map comp_byte x.params ≡ map comp_byte e.params =
    (bytes_eq-Decides (map comp_byte x.params) (map comp_byte e.params)).0 (and_parts names params first).1 in
    let answer : ret_byte x.result ≡ ret_byte e.result = eqb-true (ret_byte x.result) (ret_byte e.result) (and_parts (names && params) result h).1 in
    λ i. bytes_eq y.name (name i) && bytes_eq (map comp_byte y.params) (comps i) && (ret_byte y.result == answer i)

among_alike : (xs : List External) (x e : External) → same_row x e ≡ true → is_among_externals xs x ≡ is_among_externals xs e
among_alike [] x e h = refl
among_alike (y ∷ xs) x e h = λ i. row_alike y x e h i || among_alike xs x e h i

stays_among : (before es : List External) (e : External) → is_among_externals before e ≡ true → is_among_externals (firsts_behind before es) e ≡ true
stays_among before [] e h = h
stays_among before (x ∷ es) e h = stays_among (cond (is_among_externals before x) before (before ++ x ∷ [])) es e (by (is_among_externals before x))
  where
    by : (b : Bool) → is_among_externals (cond b before (before ++ x ∷ [])) e ≡ true
    by true = h
    by false = among_longer before (x ∷ []) e h

comes_among : (before es : List External) (e : External) → is_among_externals es e ≡ true → is_among_externals (firsts_behind before es) e ≡ true
comes_among before [] e h = absurd (let z : false ≡ true = h in cc)
comes_among before (x ∷ es) e h = by (either (same_row x e) (is_among_externals es e) h) (λ k. comes_among (cond (is_among_externals before x) before (before ++ x ∷ [])) es e k)
  where
    now : same_row x e ≡ true → (b : Bool) → is_among_externals before x ≡ b → is_among_externals (cond b before (before ++ x ∷ [])) e ≡ true
    now own true k = sym (among_alike before x e own) ∙ k
    now own false k = among_last before x e own

    by : (same_row x e ≡ true) ⊎ (is_among_externals es e ≡ true) → (is_among_externals es e ≡ true → is_among_externals (firsts_behind before (x ∷ es)) e ≡ true) →
        is_among_externals (firsts_behind before (x ∷ es)) e ≡ true
    by (inl own) more = stays_among (cond (is_among_externals before x) before (before ++ x ∷ [])) es e (now own (is_among_externals before x) refl)
    by (inr later) more = more later

again : (before acc : List External) (x : External) →
    firsts_behind before (cond (is_among_externals acc x) acc (acc ++ x ∷ [])) ≡ cond (is_among_externals (firsts_behind before acc) x) (firsts_behind before acc) (firsts_behind before acc ++ x ∷ [])
again before acc x = by (is_among_externals acc x) refl
  where
    by : (b : Bool) → is_among_externals acc x ≡ b →
        firsts_behind before (cond b acc (acc ++ x ∷ [])) ≡ cond (is_among_externals (firsts_behind before acc) x) (firsts_behind before acc) (firsts_behind before acc ++ x ∷ [])
    by true h = sym (ap (λ b. cond b (firsts_behind before acc) (firsts_behind before acc ++ x ∷ [])) (comes_among before acc x h))
    by false h = firsts_both before acc (x ∷ [])

merged : (before acc ys : List External) → firsts_behind before (firsts_behind acc ys) ≡ firsts_behind (firsts_behind before acc) ys
merged before acc [] = refl
merged before acc (y ∷ ys) =
    merged before (cond (is_among_externals acc y) acc (acc ++ y ∷ [])) ys ∙ ap (λ b. firsts_behind b ys) (again before acc y)

-- What linking puts together of lists that have each row once is what their whole lists have.
pub externals_merge : (before ys : List External) → firsts_behind before (firsts_behind [] ys) ≡ firsts_behind before ys
externals_merge before ys = merged before [] ys
