-- What may be after a byte, as a form again.
use Rattle.std.proofs.Common.{◌≡◌, ℕ, Bool, true, false, cond, ◌&&◌, ◌||◌, ◌⊎◌, leb, List, [], ◌∷◌, ◌++◌, refl, sym, ap, subst, ◌∙◌, inl, inr, le-leb, leb-true}
use Rattle.std.proofs.lemmas.Bool.{false≢true, and_parts, and_from, or_cases, or_left, or_right}
use Rattle.cmm_lex.specs.Form.{Form, Nothing, Empty, Between, Then, Either, Many, Repeats, none, more, Matches}

-- one form after another, shortened where the first is trivial
abbrev pub joined : Form → Form → Form
joined Nothing g = Nothing
joined Empty g = g
joined (Between l h) g = Then (Between l h) g
joined (Then a b) g = Then (Then a b) g
joined (Either a b) g = Then (Either a b) g
joined (Many a) g = Then (Many a) g

-- one form or another, shortened where the first or the second is no list
abbrev pub or_nothing : Form → Form → Form
or_nothing f Nothing = f
or_nothing f Empty = Either f Empty
or_nothing f (Between l h) = Either f (Between l h)
or_nothing f (Then a b) = Either f (Then a b)
or_nothing f (Either a b) = Either f (Either a b)
or_nothing f (Many a) = Either f (Many a)

abbrev pub either : Form → Form → Form
either Nothing g = g
either Empty g = or_nothing Empty g
either (Between l h) g = or_nothing (Between l h) g
either (Then a b) g = or_nothing (Then a b) g
either (Either a b) g = or_nothing (Either a b) g
either (Many a) g = or_nothing (Many a) g

abbrev pub has_empty : Form → Bool
has_empty Nothing = false
has_empty Empty = true
has_empty (Between l h) = false
has_empty (Then f g) = has_empty f && has_empty g
has_empty (Either f g) = has_empty f || has_empty g
has_empty (Many f) = true

-- what is after this byte
abbrev pub behind : ℕ → Form → Form
behind b Nothing = Nothing
behind b Empty = Nothing
behind b (Between l h) = cond (leb l b && leb b h) Empty Nothing
behind b (Then f g) = either (joined (behind b f) g) (cond (has_empty f) (behind b g) Nothing)
behind b (Either f g) = either (behind b f) (behind b g)
behind b (Many f) = joined (behind b f) (Many f)

abbrev Then-is : Form → Form → List ℕ → Type 0
Then-is f g xs = (ys zs : List ℕ) × (xs ≡ ys ++ zs) × Matches f ys × Matches g zs

joined-to : (f g : Form) (xs : List ℕ) → Then-is f g xs → Matches (joined f g) xs
unfolding Matches
joined-to Nothing g xs m = m.3
joined-to Empty g xs m =
    let e : xs ≡ m.1 = m.2 ∙ ap (λ (v : List ℕ). v ++ m.1) m.3 in
    subst (Matches g) (sym e) m.4
joined-to (Between l h) g xs m = m
joined-to (Then a b) g xs m = m
joined-to (Either a b) g xs m = m
joined-to (Many a) g xs m = m

joined-from : (f g : Form) (xs : List ℕ) → Matches (joined f g) xs → Then-is f g xs
unfolding Matches
joined-from Nothing g xs m = absurd m
joined-from Empty g xs m = ([], xs, refl, refl, m)
joined-from (Between l h) g xs m = m
joined-from (Then a b) g xs m = m
joined-from (Either a b) g xs m = m
joined-from (Many a) g xs m = m

or_nothing-to : (f g : Form) (xs : List ℕ) → Matches f xs ⊎ Matches g xs → Matches (or_nothing f g) xs
unfolding Matches
or_nothing-to f Nothing xs (inl m) = m
or_nothing-to f Nothing xs (inr m) = absurd m
or_nothing-to f Empty xs m = m
or_nothing-to f (Between l h) xs m = m
or_nothing-to f (Then a b) xs m = m
or_nothing-to f (Either a b) xs m = m
or_nothing-to f (Many a) xs m = m

or_nothing-from : (f g : Form) (xs : List ℕ) → Matches (or_nothing f g) xs → Matches f xs ⊎ Matches g xs
unfolding Matches
or_nothing-from f Nothing xs m = inl m
or_nothing-from f Empty xs m = m
or_nothing-from f (Between l h) xs m = m
or_nothing-from f (Then a b) xs m = m
or_nothing-from f (Either a b) xs m = m
or_nothing-from f (Many a) xs m = m

either-to : (f g : Form) (xs : List ℕ) → Matches f xs ⊎ Matches g xs → Matches (either f g) xs
unfolding Matches
either-to Nothing g xs (inl m) = absurd m
either-to Nothing g xs (inr m) = m
either-to Empty g xs m = or_nothing-to Empty g xs m
either-to (Between l h) g xs m = or_nothing-to (Between l h) g xs m
either-to (Then a b) g xs m = or_nothing-to (Then a b) g xs m
either-to (Either a b) g xs m = or_nothing-to (Either a b) g xs m
either-to (Many a) g xs m = or_nothing-to (Many a) g xs m

either-from : (f g : Form) (xs : List ℕ) → Matches (either f g) xs → Matches f xs ⊎ Matches g xs
unfolding Matches
either-from Nothing g xs m = inr m
either-from Empty g xs m = or_nothing-from Empty g xs m
either-from (Between l h) g xs m = or_nothing-from (Between l h) g xs m
either-from (Then a b) g xs m = or_nothing-from (Then a b) g xs m
either-from (Either a b) g xs m = or_nothing-from (Either a b) g xs m
either-from (Many a) g xs m = or_nothing-from (Many a) g xs m

-- both parts of an empty list are empty
empty_parts : (ys zs : List ℕ) → [] ≡ ys ++ zs → (ys ≡ []) × (zs ≡ [])
empty_parts [] zs e = (refl, sym e)
empty_parts (y ∷ ys) zs e = cc

has_empty-from : (f : Form) → Matches f [] → has_empty f ≡ true
unfolding Matches
has_empty-from Nothing m = absurd m
has_empty-from Empty m = refl
has_empty-from (Between l h) m = let e = m.3 in cc
has_empty-from (Then f g) m =
    let e = empty_parts m.0 m.1 m.2 in
    and_from _ _ (has_empty-from f (subst (Matches f) e.0 m.3)) (has_empty-from g (subst (Matches g) e.1 m.4))
has_empty-from (Either f g) (inl m) = or_left _ _ (has_empty-from f m)
has_empty-from (Either f g) (inr m) = or_right _ _ (has_empty-from g m)
has_empty-from (Many f) m = refl

has_empty-to : (f : Form) → has_empty f ≡ true → Matches f []
unfolding Matches
has_empty-to Nothing e = absurd (false≢true e)
has_empty-to Empty e = refl
has_empty-to (Between l h) e = absurd (false≢true e)
has_empty-to (Then f g) e =
    let p = and_parts (has_empty f) (has_empty g) e in
    ([], [], refl, has_empty-to f p.0, has_empty-to g p.1)
has_empty-to (Either f g) e =
    elim (or_cases (has_empty f) (has_empty g) e) [ inl a ↦ inl (has_empty-to f a) | inr a ↦ inr (has_empty-to g a) ]
has_empty-to (Many f) e = none

-- lists that follow one another and do not stay empty have a first byte, in a first list that is not empty
repeats-first : (P : List ℕ → Type 0) (all : List ℕ) → Repeats P all → (b : ℕ) (xs : List ℕ) → all ≡ b ∷ xs
    → (ys zs : List ℕ) × (xs ≡ ys ++ zs) × P (b ∷ ys) × Repeats P zs
repeats-first P all none b xs e = cc
repeats-first P all (more [] ys p r) b xs e = repeats-first P ys r b xs e
repeats-first P all (more (c ∷ cs) ys p r) b xs e =
    let same : c ≡ b = cc in
    let rest : xs ≡ cs ++ ys = cc in
    (cs, ys, rest, subst (λ (v : ℕ). P (v ∷ cs)) same p, r)

abbrev BehindThen : ℕ → Form → Form → List ℕ → Type 0
BehindThen b f g xs = Then-is (behind b f) g xs ⊎ ((has_empty f ≡ true) × Matches (behind b g) xs)

behind-then-to : (b : ℕ) (f g : Form) (xs : List ℕ) → BehindThen b f g xs → Matches (behind b (Then f g)) xs
behind-then-to b f g xs (inl m) = either-to (joined (behind b f) g) _ xs (inl (joined-to (behind b f) g xs m))
behind-then-to b f g xs (inr m) =
    either-to (joined (behind b f) g) _ xs (inr (subst (λ (t : Bool). Matches (cond t (behind b g) Nothing) xs) (sym m.0) m.1))

of_cond : (t : Bool) (h : Form) (xs : List ℕ) → Matches (cond t h Nothing) xs → (t ≡ true) × Matches h xs
unfolding Matches
of_cond true h xs a = (refl, a)
of_cond false h xs a = absurd a

behind-then-from : (b : ℕ) (f g : Form) (xs : List ℕ) → Matches (behind b (Then f g)) xs → BehindThen b f g xs
behind-then-from b f g xs m =
    elim (either-from (joined (behind b f) g) (cond (has_empty f) (behind b g) Nothing) xs m) [
      | inl a ↦ inl (joined-from (behind b f) g xs a)
      | inr a ↦ inr (of_cond (has_empty f) (behind b g) xs a)
    ]

then-first : (b : ℕ) (f g : Form) (xs : List ℕ)
    → ((ys : List ℕ) → Matches f (b ∷ ys) → Matches (behind b f) ys)
    → (Matches g (b ∷ xs) → Matches (behind b g) xs)
    → (ys zs : List ℕ) → b ∷ xs ≡ ys ++ zs → Matches f ys → Matches g zs → BehindThen b f g xs
then-first b f g xs in_f in_g [] zs e mf mg = inr (has_empty-from f mf, in_g (subst (Matches g) (sym e) mg))
then-first b f g xs in_f in_g (y ∷ ys) zs e mf mg =
    let same : y ≡ b = cc in
    let rest : xs ≡ ys ++ zs = cc in
    inl (ys, zs, rest, in_f ys (subst (λ (v : ℕ). Matches f (v ∷ ys)) same mf), mg)

between-to : (b l h : ℕ) (xs : List ℕ) (t : Bool) → (leb l b && leb b h) ≡ t → Matches (cond t Empty Nothing) xs → Matches (Between l h) (b ∷ xs)
unfolding Matches
between-to b l h xs true e a =
    let p = and_parts (leb l b) (leb b h) e in
    (b, leb-true l b p.0, leb-true b h p.1, ap (λ (v : List ℕ). b ∷ v) a)
between-to b l h xs false e a = absurd a

-- what has the form and begins with the byte goes on with what is after it
pub behind-from : (b : ℕ) (f : Form) (xs : List ℕ) → Matches f (b ∷ xs) → Matches (behind b f) xs
unfolding Matches
behind-from b Nothing xs m = absurd m
behind-from b Empty xs m = let e = m in cc
behind-from b (Between l h) xs m =
    let same : b ≡ m.0 = cc in
    let low : leb l b ≡ true = subst (λ (v : ℕ). leb l v ≡ true) (sym same) (le-leb l m.0 m.1) in
    let high : leb b h ≡ true = subst (λ (v : ℕ). leb v h ≡ true) (sym same) (le-leb m.0 h m.2) in
    let empty : xs ≡ [] = cc in
    subst (λ (t : Bool). Matches (cond t Empty Nothing) xs) (sym (and_from _ _ low high)) empty
behind-from b (Then f g) xs m =
    behind-then-to b f g xs
    (then-first b f g xs (λ ys a. behind-from b f ys a) (λ a. behind-from b g xs a) m.0 m.1 m.2 m.3 m.4)
behind-from b (Either f g) xs (inl m) = either-to (behind b f) (behind b g) xs (inl (behind-from b f xs m))
behind-from b (Either f g) xs (inr m) = either-to (behind b f) (behind b g) xs (inr (behind-from b g xs m))
behind-from b (Many f) xs m =
    let r = repeats-first (Matches f) (b ∷ xs) m b xs refl in
    joined-to (behind b f) (Many f) xs (r.0, r.1, r.2, behind-from b f r.0 r.3, r.4)

pub behind-to : (b : ℕ) (f : Form) (xs : List ℕ) → Matches (behind b f) xs → Matches f (b ∷ xs)
unfolding Matches
behind-to b Nothing xs m = absurd m
behind-to b Empty xs m = absurd m
behind-to b (Between l h) xs m = between-to b l h xs (leb l b && leb b h) refl m
behind-to b (Then f g) xs m =
    elim (behind-then-from b f g xs m) [
      | inl a ↦ (b ∷ a.0, a.1, ap (λ (v : List ℕ). b ∷ v) a.2, behind-to b f a.0 a.3, a.4)
      | inr a ↦ ([], b ∷ xs, refl, has_empty-to f a.0, behind-to b g xs a.1)
    ]
behind-to b (Either f g) xs m =
    elim (either-from (behind b f) (behind b g) xs m) [ inl a ↦ inl (behind-to b f xs a) | inr a ↦ inr (behind-to b g xs a) ]
behind-to b (Many f) xs m =
    let a = joined-from (behind b f) (Many f) xs m in
    subst (Repeats (Matches f)) (sym (ap (λ (v : List ℕ). b ∷ v) a.2)) (more (b ∷ a.0) a.1 (behind-to b f a.0 a.3) a.4)

pub empty-from : (f : Form) → Matches f [] → has_empty f ≡ true
empty-from f m = has_empty-from f m

pub empty-to : (f : Form) → has_empty f ≡ true → Matches f []
empty-to f e = has_empty-to f e
